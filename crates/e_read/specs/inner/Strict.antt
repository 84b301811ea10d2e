-- Neighbouring lines that could be one, by what the parser holds.
use Rattle.std.specs.Prelude.{Bool, true, not}
use Rattle.e_line.specs.declared.raw_line.RawLine.{RawLine}
use Rattle.e_line.specs.declared.raw_line.RawLine.TheVariants as rawlines
use Rattle.e_book.specs.declared.parser.TheoremParser.{TheoremParser}
use Rattle.e_read.specs.Owing.{ends_with}

-- neighbouring lines of objects of one sort are one line
abbrev pub is_apart : TheoremParser → RawLine → Bool
is_apart d (rawlines.Declare sort ns) = not (ends_with d.declared sort)
is_apart d (rawlines.Made sort ns) = not (ends_with d.made sort)
is_apart d raw_line = true
