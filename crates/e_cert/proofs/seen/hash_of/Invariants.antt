use Rattle.std.proofs.Common.{length}
use Rattle.e_cert.proofs.seen.hash_of.Given as goal

abbrev pub decreases-loop-rest : goal.decreases-loop-rest
decreases-loop-rest l = length l.rest
