-- The rows of the program as rows of the definitions.
use Rattle.std.specs.Prelude.{List, map, ℤ}
use Rattle.std.specs.List.{zip}
use Rattle.e_literal.specs.Rows.{Row, Sense, Zero, AtLeast, More, Not}
use Rattle.e_literal.specs.Absurd.{Weighed}
use Rattle.e_fraction.specs.declared.row.Row.{Row as GivenRow}
use Rattle.e_fraction.specs.declared.row.RowSense.{RowSense}
use Rattle.e_fraction.specs.declared.row.RowSense.TheVariants.{Zero as CodeZero}
use Rattle.e_fraction.specs.declared.row.RowSense.TheVariants.{AtLeast as CodeAtLeast}
use Rattle.e_fraction.specs.declared.row.RowSense.TheVariants.{More as CodeMore, Not as CodeNot}

abbrev pub sense_of : RowSense → Sense
sense_of CodeZero = Zero
sense_of CodeAtLeast = AtLeast
sense_of CodeMore = More
sense_of CodeNot = Not

abbrev pub view_of_row : GivenRow → Row
view_of_row r = record { sense = sense_of r.sense; form = r.form }

abbrev pub views_of_rows : List GivenRow → List Row
views_of_rows rows = map view_of_row rows

-- each row with its multiplier
abbrev pub with_multipliers : List GivenRow → List ℤ → List Weighed
with_multipliers rows multipliers =
    map (λ x. record { multiplier = x.1; row = view_of_row x.0 }) (zip rows multipliers)
