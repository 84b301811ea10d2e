use Rattle.std.proofs.Common.{◌≡◌}
use Rattle.e_simplex.specs.Constraints.{numbers_from}
use Rattle.e_simplex.proofs.solved.count_up.Given as goal

abbrev pub invariant-loop-i : goal.invariant-loop-i
invariant-loop-i l = l.all.items ≡ numbers_from 0 l.i
