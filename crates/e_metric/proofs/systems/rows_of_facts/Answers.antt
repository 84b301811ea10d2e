use Rattle.std.proofs.Common.{drop}
use Rattle.std.specs.Prelude.{flat_map}
use Rattle.e_clause.specs.declared.cert.RowName.TheVariants.{Fact}
use Rattle.e_clause.specs.System.{of_kind, rows_named, rows_of_term}
use Rattle.e_metric.proofs.rows.SystemRows.{rows_of_two}
use Rattle.e_metric.proofs.systems.rows_of_facts.Goals as goal

pub returns-clause-rows : goal.returns-clause-rows
returns-clause-rows c =
    rows_of_two (rows_named (λ l. Fact l) (of_kind c.args.which (drop c.args.from c.args.facts.now))) (flat_map (rows_of_term c.args.facts.now) c.args.fresh.now)
    c.new-rows.result.items _ _ c.new-rows.ensures.items c.in_ok-add_fact_rows.ensures c.in_ok-add_term_rows.ensures
