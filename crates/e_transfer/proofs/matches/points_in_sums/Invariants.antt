use Rattle.std.proofs.Common.{◌≡◌, ◌++◌, take}
use Rattle.e_transfer.specs.inner.Matches.{points_of_sum}
use Rattle.e_transfer.proofs.matches.points_in_sums.Given as goal

abbrev pub invariant-loop-m : goal.invariant-loop-m
invariant-loop-m l = l.points.items ≡ points_of_sum l.goal (take l.m-index l.x)

abbrev pub invariant-loop-m-2 : goal.invariant-loop-m-2
invariant-loop-m-2 l = l.points.items ≡ points_of_sum l.goal l.x ++ points_of_sum l.goal (take l.m-index l.y)
