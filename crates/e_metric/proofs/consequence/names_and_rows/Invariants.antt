use Rattle.std.proofs.Common.{◌≡◌, map}
use Rattle.e_metric.proofs.consequence.names_and_rows.Given as goal

abbrev pub invariant-loop-name : goal.invariant-loop-name
invariant-loop-name l = record {
  names_are : l.names.items ≡ map (λ q. q.0) l.yielded;
  rows_are : l.rows.items ≡ map (λ q. q.1) l.yielded;
}
