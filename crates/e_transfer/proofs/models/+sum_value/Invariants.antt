use Rattle.std.proofs.Common.{length}
use Rattle.e_transfer.proofs.models.+sum_value.Given as goal

abbrev pub decreases-sum_value : goal.decreases-sum_value
decreases-sum_value l = length l.sum.now
