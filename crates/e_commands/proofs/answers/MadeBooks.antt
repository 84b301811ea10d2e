-- What is written of a generated book.
use Rattle.std.proofs.Common.{◌≡◌, ℕ, List, Option, refl}
use Rattle.e_generate.specs.Generated.{generated_text}
use Rattle.e_commands.specs.declared.status.Status.{Status}
use Rattle.e_commands.specs.declared.status.Status.TheVariants as status
use Rattle.e_commands.specs.LastLines.{no_memory_line}
use Rattle.e_commands.specs.Wrote.{ClosesWith, Wrote}
use Rattle.e_commands.specs.MadeBooks.{MadeAnswer}
use Rattle.e_commands.proofs.answers.Wrote.{closed_wrote}

-- the book was written, or a front of it
pub made_closed : (n : ℕ) (old new : Option (List ℕ)) (book : List ℕ) (result : Status) → book ≡ generated_text n → ClosesWith old new book (status.Made n) result → Wrote (MadeAnswer n) old new result
made_closed n old new book result e c = closed_wrote (MadeAnswer n) old new book (status.Made n) result (refl, e) c

-- memory gave out
pub unmade_closed : (n : ℕ) (old new : Option (List ℕ)) (result : Status) → ClosesWith old new no_memory_line status.NoMemory result → Wrote (MadeAnswer n) old new result
unmade_closed n old new result c = closed_wrote (MadeAnswer n) old new no_memory_line status.NoMemory result refl c
