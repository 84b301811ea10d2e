use Rattle.std.proofs.Common.{◌≡◌, ◌≤◌, take}
use Rattle.e_fraction.specs.Views.{views_of_rows}
use Rattle.e_simplex.specs.inner.RowMultipliers.{count_nots}
use Rattle.e_simplex.proofs.multipliers.nots_among.Given as goal

abbrev pub invariant-loop-row : goal.invariant-loop-row
invariant-loop-row l = record {
  count : l.count ≡ count_nots (views_of_rows (take l.row-index l.rows));
  most : l.count ≤ l.row-index;
}
