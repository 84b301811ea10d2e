-- What holds of the table.
use Rattle.std.specs.Prelude.{◌≡◌, length}
use Rattle.e_construct.specs.declared.construction.Shape.{Shape}
use Rattle.e_construct.specs.Shapes.{shape_row}
use Rattle.e_construct.specs.Lines.{pieces, count_new, count_arguments}

-- the line of each shape names as many new objects as the shape makes, and as many arguments as it
-- has
abbrev pub LinesNameAllObjects : Type 0
LinesNameAllObjects =
    (s : Shape) → (count_new (pieces s) ≡ length (shape_row s).made)
    × (count_arguments (pieces s) ≡ length (shape_row s).args)
