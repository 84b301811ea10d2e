use Rattle.e_text.proofs.Fronts.{lines_of-front}
use Rattle.e_text.proofs.laws.fronts_are_read.Goals as goal

pub returns : goal.returns
returns c = lines_of-front
