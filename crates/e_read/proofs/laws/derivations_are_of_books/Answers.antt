use Rattle.e_read.proofs.Consequences.{reads_as_book}
use Rattle.e_read.proofs.laws.derivations_are_of_books.Goals as goal

pub returns : goal.returns
returns c = reads_as_book
