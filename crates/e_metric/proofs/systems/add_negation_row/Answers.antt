use Rattle.std.proofs.Common.{sym, ◌∙◌, refl}
use Rattle.e_clause.specs.declared.cert.RowName.TheVariants.{Goal}
use Rattle.e_literal.specs.Literal.{negation}
use Rattle.e_metric.proofs.rows.SystemRows.{literal_grows}
use Rattle.e_metric.proofs.systems.add_negation_row.Goals as goal

pub returns-in_ok-push : goal.returns-in_ok-push
returns-in_ok-push c = literal_grows c.args.which (λ l. Goal) (negation c.args.goal.now) c.args.rows.now.items _ Goal c.in_ok-row.field-0 c.in-Some.row
    (sym c.is_of_kind.ensures ∙ c.if-is_of_kind.true)
    refl
    c.in-Some.is c.in_ok-row.ensures.row c.in_ok-row.ensures.limited c.in_ok-push.ensures.items
