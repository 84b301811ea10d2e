use Rattle.std.proofs.Common.{take}
use Rattle.std.specs.Prelude.{flat_map}
use Rattle.e_clause.specs.System.{rows_of_term}
use Rattle.e_metric.specs.AgreeingRows.{GrowBy}
use Rattle.e_metric.proofs.systems.add_term_rows.Given as goal

abbrev pub invariant-loop-term : goal.invariant-loop-term
invariant-loop-term l = GrowBy (flat_map (rows_of_term l.facts) (take l.term-index l.terms)) l.initial.rows.items l.rows.items
