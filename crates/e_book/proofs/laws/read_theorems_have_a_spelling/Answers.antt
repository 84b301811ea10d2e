use Rattle.e_book.proofs.parsers.ItemsRead.{spelled_grammar}
use Rattle.e_book.proofs.laws.read_theorems_have_a_spelling.Goals as goal

pub returns : goal.returns
returns c = spelled_grammar
