use Rattle.std.proofs.Common.{take, drop}
use Rattle.e_clause.specs.declared.cert.RowName.TheVariants.{Fact}
use Rattle.e_clause.specs.System.{rows_named, of_kind}
use Rattle.e_metric.specs.AgreeingRows.{GrowBy}
use Rattle.e_metric.proofs.systems.add_fact_rows.Given as goal

abbrev pub invariant-loop-fact : goal.invariant-loop-fact
invariant-loop-fact l = GrowBy (rows_named (λ f. Fact f) (of_kind l.which (take l.fact-index (drop l.from l.facts)))) l.initial.rows.items l.rows.items
