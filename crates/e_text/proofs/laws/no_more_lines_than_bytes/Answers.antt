use Rattle.e_text.proofs.LinesOfTexts.{length-lines_of}
use Rattle.e_text.proofs.laws.no_more_lines_than_bytes.Goals as goal

pub returns : goal.returns
returns c = length-lines_of
