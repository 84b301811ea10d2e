use Rattle.e_book.proofs.canonical.CanonicalItems.{canonical_grammar}
use Rattle.e_book.proofs.laws.canonical_lines_are_read.Goals as goal

pub returns : goal.returns
returns c = canonical_grammar
