use Rattle.std.proofs.Common.{length}
use Rattle.e_verify.proofs.alike.+are_alike_sums.Given as goal

abbrev pub decreases-are_alike_sums : goal.decreases-are_alike_sums
decreases-are_alike_sums l = length l.x.now
