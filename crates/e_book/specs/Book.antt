-- A theorem, line by line, as the parser reads it where no items and no definitions come, as in a
-- derivation text.
use Rattle.std.specs.Prelude.{ℕ, Bool, true, false, List, [], ◌∷◌, Option, Some, None, Result, Ok}
use Rattle.std.specs.Prelude.{Err, if◌then◌else◌}
use Rattle.e_text.specs.Tokens.{tokens_of}
use Rattle.e_text.specs.Lines.{LineView}
use Rattle.e_text.specs.declared.line.LineFault.{LineFault}
use Rattle.e_line.specs.declared.fault.FaultKind.{FaultKind}
use Rattle.e_line.specs.declared.fault.BookFault.{BookFault}
use Rattle.e_line.specs.declared.fault.BookFault.TheVariants as faults
use Rattle.e_book.specs.declared.parser.Section.{Section}
use Rattle.e_book.specs.declared.parser.Section.TheVariants as places
use Rattle.e_book.specs.declared.parser.TheoremParser.{TheoremParser}
use Rattle.e_line.specs.Faults.{book_fault_of}
use Rattle.e_line.specs.Reading.{◌>>=◌}
use Rattle.e_names.specs.TitledStatements.{TitledStatement}
use Rattle.e_book.specs.ParserViews.{entry_of_parser}
use Rattle.e_book.specs.TheoremViews.{TheoremView}
use Rattle.e_line.specs.RawLines.{raw_line_of}
use Rattle.e_book.specs.Grammar.{is_skipped, put_at}
use Rattle.e_book.specs.Steps.{step, begin}

-- the first line of a theorem begins it, and each other goes on
unfoldable pub line_step : List TitledStatement → Option TheoremParser → List (List ℕ)
    → Result TheoremParser FaultKind
line_step known None words = raw_line_of words >>= λ f. begin known f
line_step known (Some d) words = raw_line_of words >>= λ f. step known d f

abbrev pub is_last : Section → Bool
is_last places.Done = true
is_last p = false

abbrev pub is_done : TheoremParser → Bool
is_done d = is_last d.section

-- the lines end: before a theorem, or inside one
abbrev pub at_end : ℕ → Option TheoremParser
    → Result (Option (TheoremView × List (Result LineView LineFault))) BookFault
at_end last None = Ok None
at_end last (Some d) = Err (faults.Unended last)

-- the next theorem and the lines after it, or the first fault; last is the number after the last
-- line
abbrev pub read_from : List TitledStatement → ℕ → Option TheoremParser
    → List (Result LineView LineFault)
    → Result (Option (TheoremView × List (Result LineView LineFault))) BookFault
read_from known last parser [] = at_end last parser
read_from known last parser (Err f ∷ lines) = Err (book_fault_of f)
read_from known last parser (Ok line ∷ lines) =
    if is_skipped (tokens_of line.bytes) then read_from known last parser lines else
    (put_at line.number (line_step known parser (tokens_of line.bytes)) >>= λ d. if is_done d
    then Ok (Some (entry_of_parser d, lines)) else read_from known last (Some d) lines)
