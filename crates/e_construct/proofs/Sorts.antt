-- The sorts of arguments, and how many a line names.
use Rattle.std.proofs.Common.{◌≡◌, ◌≤◌, List, [], ◌∷◌, refl, false, length, arith}
use Rattle.e_literal.specs.declared.object.Obj.{Obj}
use Rattle.e_construct.specs.declared.construction.Shape.TheVariants.{Free, OnLine, Within, Beyond, SideOf, Opposite, OnCircle, Inside, Outside, LineThrough, CircleAt, MeetLines, MeetOne, MeetBoth, MeetWithin, MeetBeyond, CirclesOne, CirclesBoth, CirclesSide, CirclesOpposite}
use Rattle.e_construct.specs.Shapes.{shape_row}
use Rattle.e_construct.specs.Construct.{sorts_of}
use Rattle.e_construct.specs.Lines.{pieces, begin_with}
use Rattle.e_construct.specs.Laws.{LinesNameAllObjects}
use Rattle.std.proofs.lemmas.Grind.{common_steps}

-- where there are no letters no object is the first
pub no_letters : (ls os : List Obj) → length ls ≡ 0 → 1 ≤ length os → begin_with (sorts_of ls) os ≡ false
no_letters [] [] h k = absurd (omega arith)
no_letters [] (o ∷ os) h k = refl
no_letters (l ∷ ls) os h k = absurd (omega (arith, h))

pub ruleset starting = (common_steps, no_letters)

pub names_all_objects : LinesNameAllObjects
unfolding pieces shape_row
names_all_objects Free = (refl, refl)
names_all_objects OnLine = (refl, refl)
names_all_objects Within = (refl, refl)
names_all_objects Beyond = (refl, refl)
names_all_objects SideOf = (refl, refl)
names_all_objects Opposite = (refl, refl)
names_all_objects OnCircle = (refl, refl)
names_all_objects Inside = (refl, refl)
names_all_objects Outside = (refl, refl)
names_all_objects LineThrough = (refl, refl)
names_all_objects CircleAt = (refl, refl)
names_all_objects MeetLines = (refl, refl)
names_all_objects MeetOne = (refl, refl)
names_all_objects MeetBoth = (refl, refl)
names_all_objects MeetWithin = (refl, refl)
names_all_objects MeetBeyond = (refl, refl)
names_all_objects CirclesOne = (refl, refl)
names_all_objects CirclesBoth = (refl, refl)
names_all_objects CirclesSide = (refl, refl)
names_all_objects CirclesOpposite = (refl, refl)
