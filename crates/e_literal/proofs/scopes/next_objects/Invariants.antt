use Rattle.std.proofs.Common.{◌≡◌, ◌<◌, ◌+◌, ◌^◌, ◌++◌, drop, length}
use Rattle.e_literal.specs.Scopes.{next_objects}
use Rattle.e_literal.proofs.scopes.next_objects.Given as goal

abbrev pub invariant-loop-sort : goal.invariant-loop-sort
invariant-loop-sort l = record {
  same : l.objects.items ++ next_objects l.scope (drop l.sort-index l.sorts) ≡ next_objects l.initial.scope l.sorts;
  points : l.scope.points + length (drop l.sort-index l.sorts) < 2 ^ 16;
  lines : l.scope.lines + length (drop l.sort-index l.sorts) < 2 ^ 16;
  circles : l.scope.circles + length (drop l.sort-index l.sorts) < 2 ^ 16;
}
