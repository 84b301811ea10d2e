-- The numbers of a figure text.
use Rattle.std.specs.Prelude.{ℕ, ◌+◌, ◌&&◌, ◌==◌, nat_lt, min, List, [], ◌∷◌, ℤ, pos, neg_ℤ, Result}
use Rattle.std.specs.Prelude.{Ok, Err, if◌then◌else◌}
use Rattle.e_text.specs.Numerals.{is_numeral, value_from}
use Rattle.e_line.specs.declared.fault.FaultKind.{FaultKind}
use Rattle.e_line.specs.declared.fault.FaultKind.TheVariants.{Malformed}
use Rattle.e_line.specs.Reading.{◌>>=◌, first_word}

-- the largest size of a coordinate, and of a number of a direction
abbrev pub most_size : ℕ
most_size = 1000000

-- the largest square
abbrev pub most_square : ℕ
most_square = 1000000000000

-- the value of a numeral, whatever its length: one more than the bound is that of all that are past
-- it
abbrev pub value_to : ℕ → List ℕ → ℕ
value_to most w = min (value_from 0 w) (most + 1)

abbrev pub unsigned_of : List ℕ → Result ℤ FaultKind
unsigned_of w = if is_numeral w then Ok (pos (value_to most_size w)) else Err Malformed

abbrev pub negative_of : List ℕ → Result ℤ FaultKind
negative_of w =
    if is_numeral w && nat_lt 0 (value_to most_size w)
    then Ok (neg_ℤ (pos (value_to most_size w)))
    else Err Malformed

-- a numeral, or a minus sign and a numeral other than 0
abbrev pub coordinate_of : List ℕ → Result ℤ FaultKind
coordinate_of [] = Err Malformed
coordinate_of (b ∷ bs) = if b == 45 then negative_of bs else unsigned_of (b ∷ bs)

-- a numeral
abbrev pub square_of : List ℕ → Result ℕ FaultKind
square_of w = if is_numeral w then Ok (value_to most_square w) else Err Malformed

-- the next word, a coordinate
unfoldable pub coordinate_at : List (List ℕ) → Result (ℤ × List (List ℕ)) FaultKind
coordinate_at words = do
  w ← first_word words
  z ← coordinate_of w.0
  Ok (z, w.1)

-- the next word, a square
unfoldable pub square_at : List (List ℕ) → Result (ℕ × List (List ℕ)) FaultKind
square_at words = do
  w ← first_word words
  n ← square_of w.0
  Ok (n, w.1)
