-- The blocks of a source, before the last lines are written.
use Rattle.std.specs.Prelude.{ℕ, List, [], Option, Result}
use Rattle.e_io.specs.Bytes.{Grew}
use Rattle.e_names.specs.declared.known.Known.{Known}
use Rattle.e_commands.specs.declared.blocks.BookResult.{BookResult}
use Rattle.e_commands.specs.declared.output.Failure.{Failure}
use Rattle.e_commands.specs.Outcome.{Begins, end_line_number, lines_of_book}
use Rattle.e_commands.specs.Answers.{Derived, AllDerived, theorems_of, blocks_of, IsAllOf}
use Rattle.e_commands.specs.inner.BookResults.{SourceResultIs}
use Rattle.e_commands.specs.Taken.{Taken, HaveNone, OfWholeLines}
use Rattle.e_book.specs.Grammar.{Rest}

-- the blocks of all theorems that these lines have were written, each with a derivation from those
-- before it
pub record AllBlocks (lines : Rest) (old new : Option (List ℕ)) : Type 0 where
  pub derived : List Derived
  pub sound : AllDerived [] derived
  pub known : Known
  pub rest : Rest
  pub begins : Begins lines (theorems_of derived) known rest
  pub none : HaveNone (end_line_number lines) known rest
  pub grew : Grew old new (blocks_of [] derived)

-- the blocks of all theorems were written whose last line with its end was taken
abbrev pub HandledBlocks : Option (List ℕ) → Option (List ℕ) → Option (List ℕ)
    → Option (List ℕ) → Type 0
HandledBlocks left0 left1 old new =
    Taken left0 left1 (OfWholeLines (λ lines. AllBlocks lines old new))

-- the blocks of the book that a source exposes end so, or break off
abbrev pub TextResultIs : Option (List ℕ) → Option (List ℕ) → Option (List ℕ)
    → Result BookResult Failure → Type 0
TextResultIs left old new ended =
    (text : List ℕ) × IsAllOf left text × SourceResultIs (lines_of_book text) old new ended
