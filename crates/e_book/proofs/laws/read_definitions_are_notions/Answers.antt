use Rattle.e_book.proofs.parsers.ItemsRead.{notions_grammar}
use Rattle.e_book.proofs.laws.read_definitions_are_notions.Goals as goal

pub returns : goal.returns
returns c = notions_grammar
