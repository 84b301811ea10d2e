use Rattle.std.proofs.Common.{length}
use Rattle.e_verify.proofs.certificate.+certify_all.Given as goal

abbrev pub decreases-certify_all : goal.decreases-certify_all
decreases-certify_all l = length l.lits.now
