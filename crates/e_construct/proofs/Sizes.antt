-- How many objects are made.
use Rattle.std.proofs.Common.{◌≤◌, length, arith}
use Rattle.e_construct.specs.declared.construction.Construction.{Construction}
use Rattle.e_construct.specs.declared.construction.Shape.{Shape}
use Rattle.e_construct.specs.declared.construction.Shape.TheVariants.{Free, OnLine, Within, Beyond, SideOf, Opposite, OnCircle, Inside, Outside, LineThrough, CircleAt, MeetLines, MeetOne, MeetBoth, MeetWithin, MeetBeyond, CirclesOne, CirclesBoth, CirclesSide, CirclesOpposite}
use Rattle.e_construct.specs.Shapes.{shape_row}
use Rattle.e_construct.specs.Construct.{sorts_made, sorts_of}

few_of_shape : (s : Shape) → length (sorts_of (shape_row s).made) ≤ 2
unfolding shape_row
few_of_shape Free = omega arith
few_of_shape OnLine = omega arith
few_of_shape Within = omega arith
few_of_shape Beyond = omega arith
few_of_shape SideOf = omega arith
few_of_shape Opposite = omega arith
few_of_shape OnCircle = omega arith
few_of_shape Inside = omega arith
few_of_shape Outside = omega arith
few_of_shape LineThrough = omega arith
few_of_shape CircleAt = omega arith
few_of_shape MeetLines = omega arith
few_of_shape MeetOne = omega arith
few_of_shape MeetBoth = omega arith
few_of_shape MeetWithin = omega arith
few_of_shape MeetBeyond = omega arith
few_of_shape CirclesOne = omega arith
few_of_shape CirclesBoth = omega arith
few_of_shape CirclesSide = omega arith
few_of_shape CirclesOpposite = omega arith

-- a construction makes at most two
pub few_made : (x : Construction) → length (sorts_made x) ≤ 2
few_made x = few_of_shape x.shape
