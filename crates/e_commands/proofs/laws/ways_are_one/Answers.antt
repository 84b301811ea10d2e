use Rattle.e_commands.specs.Outcome.{lines_of_book}
use Rattle.e_commands.proofs.answers.SuggesterAnswers.{way_is_one}
use Rattle.e_commands.proofs.laws.ways_are_one.Goals as goal

pub returns : goal.returns
returns c = λ text title step a b h k. way_is_one (lines_of_book text) title step a b h k
