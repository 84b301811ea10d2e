use Rattle.std.proofs.Common.{length}
use Rattle.e_transfer.proofs.models.+all_may_have.Given as goal

abbrev pub decreases-all_may_have : goal.decreases-all_may_have
decreases-all_may_have l = length l.sum.now
