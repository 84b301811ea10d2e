-- Lines that are spelled as their raw line is.
use Rattle.std.specs.Prelude.{ℕ, Bool, true, false, not, ◌&&◌, ◌==◌, List, length, is_some, Result}
use Rattle.std.specs.Prelude.{Ok, Err, if◌then◌else◌}
use Rattle.std.specs.List.{list_all}
use Rattle.std.specs.Str.{bytes_eq}
use Rattle.e_text.specs.Tokens.{tokens_of}
use Rattle.e_line.specs.declared.fault.FaultKind.{FaultKind}
use Rattle.e_line.specs.declared.fault.FaultKind.TheVariants.{Malformed}
use Rattle.e_line.specs.declared.literal.RawLit.{RawLit}
use Rattle.e_line.specs.declared.literal.RawAtom.{RawAtom}
use Rattle.e_line.specs.declared.literal.RawAtom.TheVariants.{SumsLess}
use Rattle.e_line.specs.declared.raw_line.RawLine.{RawLine}
use Rattle.e_line.specs.declared.raw_line.RawLine.TheVariants as rawlines
use Rattle.e_line.specs.Reading.{◌>>=◌}
use Rattle.e_line.specs.RawLines.{raw_line_of}
use Rattle.e_line.specs.Canonical.{line_of}

abbrev pub is_less : RawAtom → Bool
is_less (SumsLess x y) = true
is_less a = false

-- the negation of X < Y is written Y <= X
abbrev pub is_canonical_lit : RawLit → Bool
is_canonical_lit l = not (l.neg && is_less l.atom)

abbrev pub are_canonical_lits : List RawLit → Bool
are_canonical_lits ls = list_all is_canonical_lit ls

-- given and show have one literal a line, and no argument is a blank
abbrev pub is_canonical_form : RawLine → Bool
is_canonical_form (rawlines.Given ls) = length ls == 1 && are_canonical_lits ls
is_canonical_form (rawlines.Show ls) = length ls == 1 && are_canonical_lits ls
is_canonical_form (rawlines.Hence l) = is_canonical_lit l
is_canonical_form (rawlines.Apply a) = list_all is_some a.args
is_canonical_form (rawlines.Claim ls) = are_canonical_lits ls
is_canonical_form (rawlines.Superpose s) = are_canonical_lits s.shown
is_canonical_form (rawlines.Cases l) = is_canonical_lit l
is_canonical_form raw_line = true

-- the raw line of a line of these words that is spelled as this raw line is
unfoldable pub canonical_line_of : List ℕ → List (List ℕ) → Result RawLine FaultKind
canonical_line_of line words =
    raw_line_of words
    >>= λ f. if is_canonical_form f && bytes_eq line (line_of f) then Ok f else Err Malformed

-- the raw line of a line in its one spelling, by the line's bytes
abbrev pub canonical_line : List ℕ → Result RawLine FaultKind
canonical_line line = canonical_line_of line (tokens_of line)
