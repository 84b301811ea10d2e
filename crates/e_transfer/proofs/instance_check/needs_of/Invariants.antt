use Rattle.std.proofs.Common.{◌≡◌}
use Rattle.e_transfer.specs.GivenGoals.{needs_beside}
use Rattle.e_transfer.proofs.instance_check.needs_of.Given as goal

abbrev pub invariant-loop-lit : goal.invariant-loop-lit
invariant-loop-lit l = l.needs.items ≡ needs_beside l.yielded l.goal
