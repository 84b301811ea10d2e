-- The lines of a figure text, by their spelling alone.
use Rattle.std.specs.Prelude.{ℕ, List, [], ◌∷◌, Result, Ok, Err, codes, if◌then◌else◌}
use Rattle.std.specs.Str.{bytes_eq}
use Rattle.e_figure.specs.declared.figure.Straight.{Straight}
use Rattle.e_figure.specs.declared.figure.Round.{Round}
use Rattle.e_figure.specs.Figure.{has_direction, has_inside}
use Rattle.e_line.specs.declared.fault.FaultKind.{FaultKind}
use Rattle.e_line.specs.declared.fault.FaultKind.TheVariants.{Malformed}
use Rattle.e_line.specs.Reading.{◌>>=◌, first_name, no_word_left}
use Rattle.e_line.specs.Literals.{diagram_lits_of}
use Rattle.e_drawing.specs.declared.raw.RawLine.{RawLine}
use Rattle.e_drawing.specs.declared.raw.RawLine.TheVariants as raw
use Rattle.e_drawing.specs.Numbers.{coordinate_at, square_at}

-- a name and two coordinates
unfoldable pub plan_point_of : List (List ℕ) → Result RawLine FaultKind
plan_point_of words = do
  n ← first_name words
  x ← coordinate_at n.1
  y ← coordinate_at x.1
  none ← no_word_left y.1
  Ok (raw.Point n.0 (record { x = x.0; y = y.0 }))

-- a direction that is not two zeros
abbrev pub line_with_direction : List ℕ → Straight → Result RawLine FaultKind
line_with_direction name l = if has_direction l then Ok (raw.Line name l) else Err Malformed

-- a name, the coordinates of a point on it, and a direction
unfoldable pub straight_of : List (List ℕ) → Result RawLine FaultKind
straight_of words = do
  n ← first_name words
  x ← coordinate_at n.1
  y ← coordinate_at x.1
  dx ← coordinate_at y.1
  dy ← coordinate_at dx.1
  none ← no_word_left dy.1
  line_with_direction n.0 (record { x = x.0; y = y.0; dx = dx.0; dy = dy.0 })

-- a square that is not 0
abbrev pub circle_with_inside : List ℕ → Round → Result RawLine FaultKind
circle_with_inside name c = if has_inside c then Ok (raw.Circle name c) else Err Malformed

-- a name, the coordinates of the center, and the square of the radius
unfoldable pub round_of : List (List ℕ) → Result RawLine FaultKind
round_of words = do
  n ← first_name words
  x ← coordinate_at n.1
  y ← coordinate_at x.1
  q ← square_at y.1
  none ← no_word_left q.1
  circle_with_inside n.0 (record { x = x.0; y = y.0; square = q.0 })

abbrev pub line_of_one_word : List (List ℕ) → RawLine → Result RawLine FaultKind
line_of_one_word words line = no_word_left words >>= λ none. Ok line

-- by the first word
unfoldable pub plan_line_named : List ℕ → List (List ℕ) → Result RawLine FaultKind
plan_line_named w ws =
    if bytes_eq w (codes "figure") then line_of_one_word ws raw.Figure else
    if bytes_eq w (codes "point") then plan_point_of ws else
    if bytes_eq w (codes "line") then straight_of ws else
    if bytes_eq w (codes "circle") then round_of ws else
    if bytes_eq w (codes "given") then (diagram_lits_of ws >>= λ ls. Ok (raw.Given ls)) else
    if bytes_eq w (codes "show") then (diagram_lits_of ws >>= λ ls. Ok (raw.Show ls)) else
    if bytes_eq w (codes "end") then line_of_one_word ws raw.End else Err Malformed

unfoldable pub plan_line_of : List (List ℕ) → Result RawLine FaultKind
plan_line_of [] = Err Malformed
plan_line_of (w ∷ ws) = plan_line_named w ws
