use Rattle.e_book.proofs.book_lines.FirstFault.{fault_is_first}
use Rattle.e_book.proofs.laws.fault_is_first.Goals as goal

pub returns : goal.returns
returns c = fault_is_first
