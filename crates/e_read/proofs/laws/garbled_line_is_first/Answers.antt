use Rattle.e_read.proofs.FirstGarbled.{garbled_first}
use Rattle.e_read.proofs.laws.garbled_line_is_first.Goals as goal

pub returns : goal.returns
returns c = garbled_first
