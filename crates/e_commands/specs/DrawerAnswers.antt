-- What the command `figure` answers to a figure text, and what it writes.
use Rattle.std.specs.Prelude.{◌≡◌, ◌⊎◌, ℕ, Bool, true, false, List, Option, Some, Result, Ok, Err}
use Rattle.e_line.specs.declared.fault.BookFault.{BookFault}
use Rattle.e_line.specs.declared.fault.BookFault.TheVariants as faults
use Rattle.e_drawing.specs.Answers.{drawn_of}
use Rattle.e_commands.specs.declared.status.Status.{Status}
use Rattle.e_commands.specs.declared.status.Status.TheVariants as status
use Rattle.e_commands.specs.LastLines.{fault_line, read_fault_line, no_memory_line}
use Rattle.e_commands.specs.Answers.{IsFailure}

-- What is due with an answer: what is written of the text, or the line of its first fault. A fault
-- of the source and out of memory say nothing of it.
abbrev pub FigureAnswer : List ℕ → Status → List ℕ → Type 0
FigureAnswer text (status.Drawn n) out = drawn_of text ≡ Ok (n, out)
FigureAnswer text (status.Fault f) out = (drawn_of text ≡ Err f) × (out ≡ fault_line f)
FigureAnswer text status.ReadFault out = out ≡ read_fault_line
FigureAnswer text status.NoMemory out = out ≡ no_memory_line
FigureAnswer text _ out = ⊥

-- the fault is out of memory, which says nothing of the text
abbrev pub lacks_memory : BookFault → Bool
lacks_memory faults.NoMemory = true
lacks_memory f = false

-- the answer of a figure text
abbrev pub figure_answer : Result (ℕ × List ℕ) BookFault → Status
figure_answer (Ok d) = status.Drawn d.0
figure_answer (Err f) = status.Fault f

-- where a source exposes its bytes, the answer is that of this figure text, or the run failed
abbrev pub AnswersFigure : Option (List ℕ) → Status → Type 0
AnswersFigure left answer =
    (text : List ℕ) → left ≡ Some text → (answer ≡ figure_answer (drawn_of text)) ⊎ IsFailure answer
