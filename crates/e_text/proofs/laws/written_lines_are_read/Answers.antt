use Rattle.e_text.proofs.WrittenLines.{lines_of-lf_text}
use Rattle.e_text.proofs.laws.written_lines_are_read.Goals as goal

pub returns : goal.returns
returns c = lines_of-lf_text
