use Rattle.std.proofs.Common.{length}
use Rattle.e_read.proofs.needs.+shown_around.Given as goal

abbrev pub decreases-shown_around : goal.decreases-shown_around
decreases-shown_around l = length l.blocks.now
