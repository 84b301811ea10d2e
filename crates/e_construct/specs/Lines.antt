-- The lines of the twenty constructions, piece by piece, after the word let.
use Rattle.std.specs.Prelude.{ℕ, ◌+◌, List, [], ◌∷◌, codes, Bool, true, false, ◌&&◌}
use Rattle.e_literal.specs.declared.object.Obj.{Obj}
use Rattle.e_literal.specs.declared.object.Sort.{Sort}
use Rattle.e_literal.specs.Scopes.{same_sort}
use Rattle.e_construct.specs.declared.construction.Shape.{Shape}
use Rattle.e_construct.specs.declared.construction.Shape.TheVariants.{Free, OnLine, Within, Beyond}
use Rattle.e_construct.specs.declared.construction.Shape.TheVariants.{SideOf, Opposite, OnCircle}
use Rattle.e_construct.specs.declared.construction.Shape.TheVariants.{Inside, Outside, LineThrough}
use Rattle.e_construct.specs.declared.construction.Shape.TheVariants.{CircleAt, MeetLines, MeetOne}
use Rattle.e_construct.specs.declared.construction.Shape.TheVariants.{MeetBoth, MeetWithin}
use Rattle.e_construct.specs.declared.construction.Shape.TheVariants.{MeetBeyond, CirclesOne}
use Rattle.e_construct.specs.declared.construction.Shape.TheVariants.{CirclesBoth, CirclesSide}
use Rattle.e_construct.specs.declared.construction.Shape.TheVariants.{CirclesOpposite}
use Rattle.e_construct.specs.Shapes.{Avoids, NoObject, AnyObject, AnyApartFrom, shape_row}
use Rattle.e_construct.specs.Construct.{sorts_of}

-- a piece of a line: the name of a new object, the name of the next argument, or a word
pub data Piece : Type 0 where
  New : Piece
  Argument : Piece
  Word : (word : List ℕ) → Piece

-- ---- words

abbrev pub point : Piece
point = Word (codes "point")

abbrev pub line : Piece
line = Word (codes "line")

abbrev pub circle : Piece
circle = Word (codes "circle")

abbrev pub on : Piece
on = Word (codes "on")

abbrev pub between : Piece
between = Word (codes "between")

abbrev pub beyond : Piece
beyond = Word (codes "beyond")

abbrev pub from : Piece
from = Word (codes "from")

abbrev pub side : Piece
side = Word (codes "side")

abbrev pub opposite : Piece
opposite = Word (codes "opposite")

abbrev pub of : Piece
of = Word (codes "of")

abbrev pub inside : Piece
inside = Word (codes "inside")

abbrev pub outside : Piece
outside = Word (codes "outside")

abbrev pub meet : Piece
meet = Word (codes "meet")

abbrev pub centers : Piece
centers = Word (codes "centers")

-- ---- the table

unfoldable pub pieces : Shape → List Piece
pieces Free = New ∷ point ∷ []
pieces OnLine = New ∷ on ∷ Argument ∷ []
pieces Within = New ∷ on ∷ Argument ∷ between ∷ Argument ∷ Argument ∷ []
pieces Beyond = New ∷ on ∷ Argument ∷ beyond ∷ Argument ∷ from ∷ Argument ∷ []
pieces SideOf = New ∷ side ∷ Argument ∷ of ∷ Argument ∷ []
pieces Opposite = New ∷ opposite ∷ Argument ∷ of ∷ Argument ∷ []
pieces OnCircle = New ∷ on ∷ Argument ∷ []
pieces Inside = New ∷ inside ∷ Argument ∷ []
pieces Outside = New ∷ outside ∷ Argument ∷ []
pieces LineThrough = New ∷ line ∷ Argument ∷ Argument ∷ []
pieces CircleAt = New ∷ circle ∷ Argument ∷ Argument ∷ []
pieces MeetLines = New ∷ meet ∷ Argument ∷ Argument ∷ []
pieces MeetOne = New ∷ meet ∷ Argument ∷ Argument ∷ []
pieces MeetBoth = New ∷ New ∷ meet ∷ Argument ∷ Argument ∷ []
pieces MeetWithin = New ∷ meet ∷ Argument ∷ Argument ∷ between ∷ Argument ∷ Argument ∷ []
pieces MeetBeyond = New ∷ meet ∷ Argument ∷ Argument ∷ beyond ∷ Argument ∷ from ∷ Argument ∷ []
pieces CirclesOne = New ∷ meet ∷ Argument ∷ Argument ∷ []
pieces CirclesBoth = New ∷ New ∷ meet ∷ Argument ∷ Argument ∷ []
pieces CirclesSide =
    New ∷ meet ∷ Argument ∷ Argument ∷ side ∷ Argument ∷ of ∷ Argument ∷ centers
    ∷ Argument ∷ Argument ∷ []
pieces CirclesOpposite =
    New ∷ meet ∷ Argument ∷ Argument ∷ opposite ∷ Argument ∷ of ∷ Argument ∷ centers
    ∷ Argument ∷ Argument ∷ []

-- the twenty shapes, in the order of the table
abbrev pub all_shapes : List Shape
all_shapes =
    Free ∷ OnLine ∷ Within ∷ Beyond ∷ SideOf ∷ Opposite ∷ OnCircle ∷ Inside ∷ Outside
    ∷ LineThrough ∷ CircleAt
    ∷ MeetLines ∷ MeetOne ∷ MeetBoth ∷ MeetWithin ∷ MeetBeyond ∷ CirclesOne ∷ CirclesBoth
    ∷ CirclesSide ∷ CirclesOpposite ∷ []

abbrev pub are_avoided : Avoids → Bool
are_avoided NoObject = false
are_avoided AnyObject = true
are_avoided (AnyApartFrom o) = true

-- whether its line may end with the word avoid and objects
abbrev pub may_avoid : Shape → Bool
may_avoid s = are_avoided (shape_row s).avoids

-- the objects have the first of the sorts
abbrev pub begin_with : List Sort → List Obj → Bool
begin_with sorts [] = true
begin_with [] (o ∷ os) = false
begin_with (sort ∷ sorts) (o ∷ os) = same_sort sort o.sort && begin_with sorts os

-- whether the objects may be its first arguments
abbrev pub takes : Shape → List Obj → Bool
takes s os = begin_with (sorts_of (shape_row s).args) os

-- ---- the lines and the rows of the table speak of the same objects

abbrev pub count_new : List Piece → ℕ
count_new [] = 0
count_new (New ∷ ps) = 1 + count_new ps
count_new (Argument ∷ ps) = count_new ps
count_new (Word w ∷ ps) = count_new ps

abbrev pub count_arguments : List Piece → ℕ
count_arguments [] = 0
count_arguments (New ∷ ps) = count_arguments ps
count_arguments (Argument ∷ ps) = 1 + count_arguments ps
count_arguments (Word w ∷ ps) = count_arguments ps
