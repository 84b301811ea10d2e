use Rattle.std.proofs.Common.{◌≡◌, ◌≤◌, length, take}
use Rattle.std.specs.Prelude.{flat_map}
use Rattle.e_clause.specs.System.{rows_of_term}
use Rattle.e_metric.proofs.systems.count_term_rows.Given as goal

abbrev pub invariant-loop-term : goal.invariant-loop-term
invariant-loop-term l = record {
  counted : l.count ≡ length (flat_map (rows_of_term l.facts) (take l.term-index l.terms));
  bound : l.count ≤ l.term-index;
}
