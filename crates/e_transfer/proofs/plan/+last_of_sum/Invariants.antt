use Rattle.std.proofs.Common.{length}
use Rattle.e_transfer.proofs.plan.+last_of_sum.Given as goal

abbrev pub decreases-last_of_sum : goal.decreases-last_of_sum
decreases-last_of_sum l = length l.sum.now
