-- A figure: points, lines and circles with whole numbers, each by its place among those of its
-- sort.
use Rattle.std.specs.Prelude.{ℕ, ◌≤◌, List, [], ◌∷◌, ◌++◌, length, get_or, Bool, not, ◌&&◌}
use Rattle.std.specs.Prelude.{if◌then◌else◌, nat_le, nat_lt, ℤ, pos, unsigned_abs, Option, Some}
use Rattle.std.specs.Prelude.{None}
use Rattle.std.specs.List.{list_all}
use Rattle.std.specs.Ordering.{int_eq}
use Rattle.e_literal.specs.declared.object.Scope.{Scope}
use Rattle.e_figure.specs.declared.figure.Point.{Point}
use Rattle.e_figure.specs.declared.figure.Straight.{Straight}
use Rattle.e_figure.specs.declared.figure.Round.{Round}

pub record FigureView : Type 0 where
  pub points : List Point
  pub lines : List Straight
  pub circles : List Round

-- ---- a line has a direction, and a circle an inside

abbrev pub has_direction : Straight → Bool
has_direction l = not (int_eq l.dx (pos 0) && int_eq l.dy (pos 0))

abbrev pub has_inside : Round → Bool
has_inside c = nat_lt 0 c.square

abbrev pub is_figure : FigureView → Bool
is_figure d = list_all has_direction d.lines && list_all has_inside d.circles

-- ---- the numbers are in their bounds

abbrev pub is_small_number : ℤ → Bool
is_small_number z = nat_le (unsigned_abs z) 1000000

abbrev pub is_small_point : Point → Bool
is_small_point a = is_small_number a.x && is_small_number a.y

abbrev pub is_small_line : Straight → Bool
is_small_line l =
    is_small_number l.x && (is_small_number l.y && (is_small_number l.dx && is_small_number l.dy))

abbrev pub is_small_circle : Round → Bool
is_small_circle c = is_small_number c.x && (is_small_number c.y && nat_le c.square 1000000000000)

abbrev pub is_bounded : FigureView → Bool
is_bounded d =
    list_all is_small_point d.points
    && (list_all is_small_line d.lines && list_all is_small_circle d.circles)

-- ---- there are not too many objects

abbrev pub has_few_objects : FigureView → Bool
has_few_objects d =
    nat_le (length d.points) 40 && (nat_le (length d.lines) 24 && nat_le (length d.circles) 16)

-- the same as a proposition, which a figure keeps of its objects
abbrev pub HasFewObjects : FigureView → Type 0
HasFewObjects d = (length d.points ≤ 40) × ((length d.lines ≤ 24) × (length d.circles ≤ 16))

-- ---- which objects make a figure

abbrev pub view_of_figure : List Point → List Straight → List Round → FigureView
view_of_figure points lines circles = record { points = points; lines = lines; circles = circles }

abbrev pub can_be_drawn : FigureView → Bool
can_be_drawn d = has_few_objects d && (is_bounded d && is_figure d)

-- the figure of these objects, and none where a number is out of its bounds, a direction is two
-- zeros, a square is 0, or there are too many
abbrev pub figure_of : List Point → List Straight → List Round → Option FigureView
figure_of points lines circles =
    if can_be_drawn (view_of_figure points lines circles)
    then Some (view_of_figure points lines circles)
    else None

-- ---- one object more, put after those of its sort

abbrev pub with_point : FigureView → Point → FigureView
with_point d a = record { points = d.points ++ a ∷ []; lines = d.lines; circles = d.circles }

abbrev pub with_line : FigureView → Straight → FigureView
with_line d l = record { points = d.points; lines = d.lines ++ l ∷ []; circles = d.circles }

abbrev pub with_circle : FigureView → Round → FigureView
with_circle d c = record { points = d.points; lines = d.lines; circles = d.circles ++ c ∷ [] }

-- ---- its objects

-- how many there are of each sort
abbrev pub scope_of_figure : FigureView → Scope
scope_of_figure d =
    record { points = length d.points; lines = length d.lines; circles = length d.circles }

-- the objects with these numbers; what is put for others says nothing, since literals are asked of
-- objects in scope alone
abbrev pub point_of : FigureView → ℕ → Point
point_of d n = get_or d.points n (record { x = pos 0; y = pos 0 })

abbrev pub line_of_figure : FigureView → ℕ → Straight
line_of_figure d n = get_or d.lines n (record { x = pos 0; y = pos 0; dx = pos 1; dy = pos 0 })

abbrev pub circle_of : FigureView → ℕ → Round
circle_of d n = get_or d.circles n (record { x = pos 0; y = pos 0; square = 1 })
