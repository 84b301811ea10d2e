use Rattle.std.proofs.Common.{◌≡◌, ◌≤◌, ◌+◌, ◌++◌, List, length, take}
use Rattle.e_fraction.specs.declared.row.Row.{Row as GivenRow}
use Rattle.e_simplex.specs.inner.RowMultipliers.{AreSeen}
use Rattle.e_simplex.proofs.multipliers.add_multipliers.Given as goal

abbrev pub invariant-loop-row : goal.invariant-loop-row
invariant-loop-row l = record {
  seen : (before : List GivenRow) → AreSeen before l.weights l.tried l.last l.initial.nots l.initial.all.items → AreSeen (before ++ take l.row-index l.rows) l.weights l.tried l.last l.nots l.all.items;
  most : l.nots ≤ length l.all.items;
  many : length l.all.items ≡ length l.initial.all.items + l.row-index;
}
