use Rattle.std.proofs.Common.{◌≡◌, length}
use Rattle.e_simplex.specs.Entries.{at}
use Rattle.e_simplex.specs.inner.Readings.{AreSpread}
use Rattle.e_simplex.proofs.table.Table.values.Given as goal

abbrev pub invariant-loop-row : goal.invariant-loop-row
invariant-loop-row l = record {
  shape : length l.values.items ≡ length l.self.columns.items;
  spread : AreSpread l.row l.self.basis.items 0 (λ k. at l.self.entries.items (length l.self.columns.items) k 0) l.values.items;
}
