use Rattle.e_text.proofs.NumeralWords.{number_of-decimal}
use Rattle.e_text.proofs.laws.printed_numbers_are_read.Goals as goal

pub returns : goal.returns
returns c = number_of-decimal
