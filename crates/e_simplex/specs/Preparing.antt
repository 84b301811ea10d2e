-- What comes of rows that are to be solved.
use Rattle.std.specs.Prelude.{◌≡◌, ◌≤◌, ◌^◌, List}
use Rattle.e_literal.specs.Minor.{IsWide}
use Rattle.e_literal.specs.Width.{width}
use Rattle.e_fraction.specs.declared.row.Row.{Row as GivenRow}
use Rattle.e_fraction.specs.Views.{views_of_rows}
use Rattle.e_simplex.specs.Answer.{IsRefuted}
use Rattle.e_simplex.specs.declared.solved_rows.Prepared.{Prepared}
use Rattle.e_simplex.specs.declared.solved_rows.Prepared.TheVariants.{SolvedRows, Absurd, TooWide}

-- the rows, solved; or the rows with multipliers that refute them; or the rows are wide, and so is
-- their width
abbrev pub IsPreparedRows : List GivenRow → Prepared → Type 0
IsPreparedRows rows (SolvedRows s) = s ≡ rows
IsPreparedRows rows (Absurd same absurdity) =
    (same.items ≡ rows) × IsRefuted (views_of_rows rows) absurdity
IsPreparedRows rows TooWide = IsWide (views_of_rows rows) × (2 ^ 63 ≤ width (views_of_rows rows))
