-- The first fault of lines, as the grammar reads them.
use Rattle.std.specs.Prelude.{◌≡◌, ◌⊎◌, ℕ, true, false, [], ◌∷◌, ◌++◌, Option, Some, None, Result}
use Rattle.std.specs.Prelude.{Ok, Err}
use Rattle.e_text.specs.Tokens.{tokens_of}
use Rattle.e_text.specs.Lines.{LineView}
use Rattle.e_text.specs.declared.line.LineFault.{LineFault}
use Rattle.e_line.specs.declared.fault.BookFault.{BookFault}
use Rattle.e_line.specs.declared.fault.BookFault.TheVariants as faults
use Rattle.e_line.specs.Faults.{book_fault_of}
use Rattle.e_names.specs.declared.known.Known.{Known}
use Rattle.e_book.specs.Grammar.{is_skipped, Rest}
use Rattle.e_book.specs.Definitions.{PartialItem, item_ended, put_there, item_after_words}

-- these lines are taken one after another, from this on, and leave that
abbrev pub Leaves : Known → Option PartialItem → Rest → Option PartialItem → Type 0
Leaves known o [] left = o ≡ left
Leaves known o (Err f ∷ lines) left = ⊥
Leaves known o (Ok line ∷ lines) left =
    (is_skipped (tokens_of line.bytes) ≡ true → Leaves known o lines left)
    × (is_skipped (tokens_of line.bytes) ≡ false
    → (n : PartialItem)
    × (item_after_words known o (tokens_of line.bytes) ≡ Ok n) × (item_ended n ≡ None)
    × Leaves known (Some n) lines left)

-- a line has this fault here: its bytes, or its form, its names or a limit
abbrev pub IsFaulty : Known → Option PartialItem → Result LineView LineFault → BookFault → Type 0
IsFaulty known o (Err f) fault = book_fault_of f ≡ fault
IsFaulty known o (Ok line) fault =
    (is_skipped (tokens_of line.bytes) ≡ false)
    × (put_there line.number (item_after_words known o (tokens_of line.bytes)) ≡ Err fault)

-- the lines begin with a prefix that is taken, and the line after it has this fault
pub record BreaksAt (known : Known) (o : Option PartialItem) (lines : Rest)
    (fault : BookFault) : Type 0 where
  pub front : Rest
  pub line : Result LineView LineFault
  pub rest : Rest
  pub all : lines ≡ front ++ line ∷ rest
  pub left : Option PartialItem
  pub taken : Leaves known o front left
  pub faulty : IsFaulty known left line fault

-- a fault is the first: all lines before it are taken, or all lines are, and they end inside a
-- theorem or a definition
abbrev pub IsFirst : Known → ℕ → Option PartialItem → Rest → BookFault → Type 0
IsFirst known last o lines fault =
    BreaksAt known o lines fault
    ⊎ ((n : PartialItem) × Leaves known o lines (Some n) × (faults.Unended last ≡ fault))
