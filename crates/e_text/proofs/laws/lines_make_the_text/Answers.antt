use Rattle.e_text.proofs.WrittenLines.{text_of_lines-lines_of}
use Rattle.e_text.proofs.laws.lines_make_the_text.Goals as goal

pub returns : goal.returns
returns c = text_of_lines-lines_of
