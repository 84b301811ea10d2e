use Rattle.e_suggest.proofs.FirstOfChoices as FirstOfChoices
use Rattle.e_suggest.proofs.laws.first_of_choices.Goals as goal

pub returns : goal.returns
returns c = FirstOfChoices.first_of_choices
