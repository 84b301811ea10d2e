use Rattle.std.proofs.Common.{◌≡◌, length, get_or, pos}
use Rattle.std.specs.Prelude.{neg_ℤ}
use Rattle.e_simplex.specs.Entries.{turn}
use Rattle.e_simplex.specs.inner.Readings.{AreSpread}
use Rattle.e_simplex.proofs.table.Table.weights_with.Given as goal

abbrev pub invariant-loop-q : goal.invariant-loop-q
invariant-loop-q l = record {
  shape : length l.weights.items ≡ length l.self.basis.items;
  spread : AreSpread l.q l.self.columns.items (length l.self.columns.items) (λ q. neg_ℤ (turn (get_or l.row 0 (pos 0)) (get_or l.row q (pos 0)))) l.weights.items;
}
