use Rattle.std.proofs.Common.{◌≡◌, ◌<◌, ◌+◌, ◌^◌, drop, length}
use Rattle.e_literal.specs.Scopes.{with_sorts}
use Rattle.e_literal.proofs.scopes.with_sorts.Given as goal

abbrev pub invariant-loop-sort : goal.invariant-loop-sort
invariant-loop-sort l = record {
  same : with_sorts l.scope (drop l.sort-index l.sorts) ≡ with_sorts l.initial.scope l.sorts;
  points : l.scope.points + length (drop l.sort-index l.sorts) < 2 ^ 16;
  lines : l.scope.lines + length (drop l.sort-index l.sorts) < 2 ^ 16;
  circles : l.scope.circles + length (drop l.sort-index l.sorts) < 2 ^ 16;
}
