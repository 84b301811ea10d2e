use Rattle.std.proofs.Common.{sym, ◌∙◌, ap}
use Rattle.e_clause.specs.declared.cert.RowName.TheVariants.{Fact}
use Rattle.e_metric.proofs.rows.SystemRows.{literal_grows}
use Rattle.e_metric.proofs.systems.add_fact_row.Goals as goal

pub returns-in_ok-push : goal.returns-in_ok-push
returns-in_ok-push c = literal_grows c.args.which (λ l. Fact l) c.args.fact.now c.args.rows.now.items _ _ c.in_ok-row.field-0 c.in-Some.row
    (sym c.is_of_kind.ensures ∙ c.if-is_of_kind.true)
    (ap Fact c.in_ok-copy.ensures)
    c.in-Some.is c.in_ok-row.ensures.row c.in_ok-row.ensures.limited c.in_ok-push.ensures.items
