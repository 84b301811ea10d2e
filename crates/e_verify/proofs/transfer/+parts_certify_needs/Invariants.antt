use Rattle.std.proofs.Common.{length}
use Rattle.e_verify.proofs.transfer.+parts_certify_needs.Given as goal

abbrev pub decreases-parts_certify_needs : goal.decreases-parts_certify_needs
decreases-parts_certify_needs l = length l.needs.now
