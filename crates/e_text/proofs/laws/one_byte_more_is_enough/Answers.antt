use Rattle.e_text.proofs.LinesOfTexts.{lines_of-take}
use Rattle.e_text.proofs.laws.one_byte_more_is_enough.Goals as goal

pub returns : goal.returns
returns c = lines_of-take
