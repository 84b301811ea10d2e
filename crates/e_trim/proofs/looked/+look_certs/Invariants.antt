use Rattle.std.proofs.Common.{length}
use Rattle.e_trim.proofs.looked.+look_certs.Given as goal

abbrev pub decreases-look_certs : goal.decreases-look_certs
decreases-look_certs l = length l.lits.now
