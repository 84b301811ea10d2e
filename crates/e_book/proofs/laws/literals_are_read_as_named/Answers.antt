use Rattle.e_book.proofs.canonical.CanonicalItems.{literal_again}
use Rattle.e_book.proofs.laws.literals_are_read_as_named.Goals as goal

pub returns : goal.returns
returns c = literal_again
