use Rattle.e_book.proofs.book_lines.FirstFault.{fault_of_front}
use Rattle.e_book.proofs.laws.fault_is_of_the_front.Goals as goal

pub returns : goal.returns
returns c = fault_of_front
