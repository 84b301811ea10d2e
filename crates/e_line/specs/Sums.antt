-- Sums of magnitudes, by their spelling alone.
use Rattle.std.specs.Prelude.{ℕ, ◌+◌, Bool, false, List, [], ◌∷◌, Result, Ok, Err, codes, min}
use Rattle.std.specs.Prelude.{if◌then◌else◌}
use Rattle.std.specs.List.{slice_split}
use Rattle.std.specs.Str.{bytes_eq}
use Rattle.e_text.specs.Numerals.{is_numeral, value_from}
use Rattle.e_line.specs.declared.fault.FaultKind.{FaultKind}
use Rattle.e_line.specs.declared.fault.FaultKind.TheVariants.{Malformed}
use Rattle.e_line.specs.declared.sum.RawTerm.{RawTerm}
use Rattle.e_line.specs.declared.sum.RawTerm.TheVariants.{Seg, Ang, Area, Right}
use Rattle.e_line.specs.declared.sum.RawMono.{RawMono}
use Rattle.e_line.specs.Limits.{most_coefficient}
use Rattle.e_line.specs.Reading.{◌>>=◌, each, two_names, three_names, no_word_left}

-- a term, by its first word
unfoldable pub term_named : List ℕ → List (List ℕ) → Result RawTerm FaultKind
term_named w ws =
    if bytes_eq w (codes "seg") then (two_names ws >>= λ p. Ok (Seg p.0 p.1)) else
    if bytes_eq w (codes "ang") then (three_names ws >>= λ p. Ok (Ang p.0 p.1 p.2)) else
    if bytes_eq w (codes "area") then (three_names ws >>= λ p. Ok (Area p.0 p.1 p.2)) else
    if bytes_eq w (codes "right") then (no_word_left ws >>= λ none. Ok Right) else Err Malformed

unfoldable pub term_of : List (List ℕ) → Result RawTerm FaultKind
term_of [] = Err Malformed
term_of (w ∷ ws) = term_named w ws

-- the value of a numeral, whatever its length: of all that are too large it is one more than a
-- coefficient may be
abbrev pub coefficient_of : List ℕ → ℕ
coefficient_of w = min (value_from 0 w) (most_coefficient + 1)

-- a term after a numeral
unfoldable pub counted_term : List ℕ → List (List ℕ) → Result RawMono FaultKind
counted_term w ws =
    if bytes_eq w (codes "0") then Err Malformed else
    (term_of ws >>= λ t. Ok (record { coeff = coefficient_of w; term = t }))

-- a term, with a numeral other than 0 before it or with none
unfoldable pub mono_of : List (List ℕ) → Result RawMono FaultKind
mono_of [] = Err Malformed
mono_of (w ∷ ws) =
    if is_numeral w then counted_term w ws else
    (term_named w ws >>= λ t. Ok (record { coeff = 1; term = t }))

abbrev pub is_plus : List ℕ → Bool
is_plus word = bytes_eq word (codes "+")

-- the words are the one word 0
abbrev pub is_zero : List (List ℕ) → Bool
is_zero (w ∷ []) = bytes_eq w (codes "0")
is_zero (w ∷ v ∷ ws) = false
is_zero [] = false

-- monomials with a plus between two; or none, which is written 0
unfoldable pub sum_of : List (List ℕ) → Result (List RawMono) FaultKind
sum_of words = if is_zero words then Ok [] else each mono_of (slice_split is_plus words)
