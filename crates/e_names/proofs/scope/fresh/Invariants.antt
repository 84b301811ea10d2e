use Rattle.std.proofs.Common.{◌≡◌, take, drop, []}
use Rattle.e_names.specs.Scope.{fresh}
use Rattle.e_names.proofs.scope.fresh.Given as goal

abbrev pub invariant-loop-i : goal.invariant-loop-i
invariant-loop-i l = fresh l.names (take l.i l.new) (drop l.i l.new) ≡ fresh l.names [] l.new
