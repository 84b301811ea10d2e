use Rattle.std.proofs.Common.{length}
use Rattle.e_places.proofs.places.+put_certs.Given as goal

abbrev pub decreases-put_certs : goal.decreases-put_certs
decreases-put_certs l = length l.lits.now
