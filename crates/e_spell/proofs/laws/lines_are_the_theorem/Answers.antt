use Rattle.e_spell.proofs.Plain.{plain_lines}
use Rattle.e_spell.proofs.laws.lines_are_the_theorem.Goals as goal

pub returns : goal.returns
returns c = plain_lines
