use Rattle.std.proofs.Common.{◌≡◌, ◌≤◌, ◌<◌, ℕ, length, get_or}
use Rattle.e_transfer.proofs.plan.positions_of.Given as goal

abbrev pub invariant-loop-representative : goal.invariant-loop-representative
invariant-loop-representative l = record {
  inside : l.representative-index ≤ length l.representatives;
  many : length l.positions.items ≡ l.representative-index;
  below : (v : ℕ) → v < l.representative-index → get_or l.positions.items v 0 < length l.order;
  at : (v : ℕ) → v < l.representative-index → get_or l.order (get_or l.positions.items v 0) 0 ≡ get_or l.representatives v 0;
}
