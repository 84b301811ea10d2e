use Rattle.std.proofs.Common.{length}
use Rattle.e_trim.proofs.looked.+look_parts.Given as goal

abbrev pub decreases-look_parts : goal.decreases-look_parts
decreases-look_parts l = length l.lits.now
