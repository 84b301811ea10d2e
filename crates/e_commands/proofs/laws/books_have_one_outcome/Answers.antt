use Rattle.e_commands.specs.Outcome.{lines_of_book}
use Rattle.e_commands.proofs.outcomes.OneOutcome.{outcome_is_one}
use Rattle.e_commands.proofs.laws.books_have_one_outcome.Goals as goal

pub returns : goal.returns
returns c = λ text a b h k. outcome_is_one (lines_of_book text) h.theorems k.theorems a b h.outcome k.outcome
