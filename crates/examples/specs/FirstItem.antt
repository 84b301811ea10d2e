-- The first theorem or definition of a book's text.
use Rattle.std.specs.Prelude.{ℕ, ◌+◌, List, length, Option, None, Result}
use Rattle.e_text.specs.Lines.{Ahead, lines_of}
use Rattle.e_line.specs.declared.fault.BookFault.{BookFault}
use Rattle.e_names.specs.declared.known.Known.{Known}
use Rattle.e_book.specs.Grammar.{Rest}
use Rattle.e_book.specs.Definitions.{BookReads, item_from}
use Rattle.e_book.specs.declared.item.Item.{Item}

-- the lines of a book: a line has at most 1,600 bytes, and a book 4,194,304
abbrev pub lines_of_book : List ℕ → Rest
lines_of_book text =
    lines_of (record { longest = 1600; most = 4194304 }) (record { line = 1; before = 0 }) text

-- it is what the grammar reads first from the text, where this is known before it
pub record IsFirstItem (known : Known) (text : List ℕ) (answer : Result (Option Item) BookFault) : Type 0 where
  pub after : Ahead
  pub read : BookReads answer after
      (item_from known (1 + length (lines_of_book text)) None (lines_of_book text))
