-- What was taken of a source, and that all of it was handled.
use Rattle.std.specs.Prelude.{◌≡◌, ℕ, ◌≤◌, List, ◌++◌, length, Option, Some, None, Ok}
use Rattle.e_io.specs.Bytes.{Grew}
use Rattle.e_text.specs.Lines.{IsClosed, IsOpen}
use Rattle.e_names.specs.declared.known.Known.{Known}
use Rattle.e_book.specs.Definitions.{BookItem, item_from}
use Rattle.e_book.specs.Grammar.{Rest}
use Rattle.e_commands.specs.LastLines.{read_fault_line}
use Rattle.e_commands.specs.Outcome.{end_line_number, lines_of_book}
use Rattle.e_commands.specs.Answers.{OutputUpTo}

-- where a source exposes its bytes, this holds of those that were taken of it
abbrev pub Taken : Option (List ℕ) → Option (List ℕ) → (List ℕ → Type 0) → Type 0
Taken None left Holds = Unit {0}
Taken (Some all) None Holds = ⊥
Taken (Some all) (Some left) Holds = (taken : List ℕ) × (all ≡ taken ++ left) × Holds taken

-- at most one byte more than a book may have was taken
abbrev pub TookFew : Option (List ℕ) → Option (List ℕ) → Type 0
TookFew old new = Taken old new (λ taken. length taken ≤ 4194305)

-- no theorem and no definition is read of these lines where no others come after them
abbrev pub HaveNone : ℕ → Known → Rest → Type 0
HaveNone last known lines =
    (i : BookItem) (after : Rest) → ¬ (item_from known last None lines ≡ Ok (Some (i, after)))

-- what was taken is lines with their ends, of which this holds, and bytes of one that has not ended
abbrev pub OfWholeLines : (Rest → Type 0) → List ℕ → Type 0
OfWholeLines Holds taken =
    (front rest : List ℕ) × (taken ≡ front ++ rest) × IsClosed front × IsOpen rest
    × Holds (lines_of_book front)

-- after a read fault: the head line, the blocks of all theorems that these lines have and the last
-- line were written
abbrev pub HandledAll : Option (List ℕ) → Option (List ℕ) → Option (List ℕ)
    → Option (List ℕ) → Type 0
HandledAll left0 left1 old new =
    Taken left0 left1 (OfWholeLines
    (λ lines. (out : List ℕ) × Grew old new out
    × OutputUpTo lines (HaveNone (end_line_number lines)) read_fault_line out))
