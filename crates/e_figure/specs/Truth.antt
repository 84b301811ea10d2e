-- The truth of a diagram literal in a figure.
use Rattle.std.specs.Prelude.{Bool, false, not, ◌&&◌, if◌then◌else◌, ℤ, pos, ◌+ℤ◌, ◌-ℤ◌, ◌*ℤ◌}
use Rattle.std.specs.Prelude.{int_lt}
use Rattle.std.specs.Ordering.{int_eq}
use Rattle.e_literal.specs.declared.literal.Atom.{Atom}
use Rattle.e_literal.specs.declared.literal.Atom.TheVariants.{On, OnC, Inside, Center, Between}
use Rattle.e_literal.specs.declared.literal.Atom.TheVariants.{Same, MeetLL, MeetLC, MeetCC, EqP}
use Rattle.e_literal.specs.declared.literal.Atom.TheVariants.{EqL, EqC, MagEq, MagLt}
use Rattle.e_literal.specs.declared.literal.Lit.{Lit}
use Rattle.e_figure.specs.declared.figure.Point.{Point}
use Rattle.e_figure.specs.declared.figure.Straight.{Straight}
use Rattle.e_figure.specs.declared.figure.Round.{Round}
use Rattle.e_figure.specs.Figure.{FigureView, point_of, line_of_figure, circle_of}

-- the cross and the dot product of two arrows, each by its two numbers
abbrev pub cross : ℤ → ℤ → ℤ → ℤ → ℤ
cross ux uy vx vy = ux *ℤ vy -ℤ uy *ℤ vx

abbrev pub dot : ℤ → ℤ → ℤ → ℤ → ℤ
dot ux uy vx vy = ux *ℤ vx +ℤ uy *ℤ vy

-- on which side of the line, and how far: 0 on it
abbrev pub side_of_line : ℤ → ℤ → Straight → ℤ
side_of_line x y l = cross l.dx l.dy (x -ℤ l.x) (y -ℤ l.y)

-- the square of the distance
abbrev pub dist : ℤ → ℤ → ℤ → ℤ → ℤ
dist x y u v = dot (x -ℤ u) (y -ℤ v) (x -ℤ u) (y -ℤ v)

abbrev pub is_on : Point → Straight → Bool
is_on a l = int_eq (side_of_line a.x a.y l) (pos 0)

abbrev pub is_on_circle : Point → Round → Bool
is_on_circle a c = int_eq (dist a.x a.y c.x c.y) (pos c.square)

abbrev pub is_inside : Point → Round → Bool
is_inside a c = int_lt (dist a.x a.y c.x c.y) (pos c.square)

abbrev pub is_center : Point → Round → Bool
is_center a c = int_eq a.x c.x && int_eq a.y c.y

abbrev pub is_between : Point → Point → Point → Bool
is_between a b c =
    int_eq (cross (b.x -ℤ a.x) (b.y -ℤ a.y) (c.x -ℤ a.x) (c.y -ℤ a.y)) (pos 0)
    && int_lt (dot (a.x -ℤ b.x) (a.y -ℤ b.y) (c.x -ℤ b.x) (c.y -ℤ b.y)) (pos 0)

abbrev pub is_same_side : Point → Point → Straight → Bool
is_same_side a b l = int_lt (pos 0) (side_of_line a.x a.y l *ℤ side_of_line b.x b.y l)

abbrev pub lines_meet : Straight → Straight → Bool
lines_meet l m = not (int_eq (cross l.dx l.dy m.dx m.dy) (pos 0))

abbrev pub line_meets_circle : Straight → Round → Bool
line_meets_circle l c =
    int_lt (side_of_line c.x c.y l *ℤ side_of_line c.x c.y l)
    (pos c.square *ℤ dot l.dx l.dy l.dx l.dy)

abbrev pub circles_meet : Round → Round → Bool
circles_meet c e =
    int_lt ((dist e.x e.y c.x c.y -ℤ pos c.square -ℤ pos e.square)
    *ℤ (dist e.x e.y c.x c.y -ℤ pos c.square -ℤ pos e.square))
    (pos 4 *ℤ (pos c.square *ℤ pos e.square))

abbrev pub same_point : Point → Point → Bool
same_point a b = int_eq a.x b.x && int_eq a.y b.y

-- the directions are parallel, and the point of the second is on the first
abbrev pub same_line : Straight → Straight → Bool
same_line l m =
    int_eq (cross l.dx l.dy m.dx m.dy) (pos 0) && int_eq (side_of_line m.x m.y l) (pos 0)

abbrev pub same_circle : Round → Round → Bool
same_circle c e = int_eq c.x e.x && (int_eq c.y e.y && int_eq (pos c.square) (pos e.square))

abbrev pub atom_holds : FigureView → Atom → Bool
atom_holds d (On a l) = is_on (point_of d a) (line_of_figure d l)
atom_holds d (OnC a c) = is_on_circle (point_of d a) (circle_of d c)
atom_holds d (Inside a c) = is_inside (point_of d a) (circle_of d c)
atom_holds d (Center a c) = is_center (point_of d a) (circle_of d c)
atom_holds d (Between a b c) = is_between (point_of d a) (point_of d b) (point_of d c)
atom_holds d (Same a b l) = is_same_side (point_of d a) (point_of d b) (line_of_figure d l)
atom_holds d (MeetLL l m) = lines_meet (line_of_figure d l) (line_of_figure d m)
atom_holds d (MeetLC l c) = line_meets_circle (line_of_figure d l) (circle_of d c)
atom_holds d (MeetCC c e) = circles_meet (circle_of d c) (circle_of d e)
atom_holds d (EqP a b) = same_point (point_of d a) (point_of d b)
atom_holds d (EqL l m) = same_line (line_of_figure d l) (line_of_figure d m)
atom_holds d (EqC c e) = same_circle (circle_of d c) (circle_of d e)
atom_holds d (MagEq x y) = false
atom_holds d (MagLt x y) = false

abbrev pub is_true : FigureView → Lit → Bool
is_true d l = if l.neg then not (atom_holds d l.atom) else atom_holds d l.atom
