use Rattle.e_commands.specs.Outcome.{lines_of_book}
use Rattle.e_commands.proofs.answers.SuggesterAnswers.{suggestion_is_one}
use Rattle.e_commands.proofs.laws.suggestions_are_one.Goals as goal

pub returns : goal.returns
returns c = λ text title step n m more others out other h k. suggestion_is_one (lines_of_book text) title step n m more others out other h k
