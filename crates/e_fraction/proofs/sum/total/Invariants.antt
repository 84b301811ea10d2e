-- The sum over the rows passed, and its size.
use Rattle.std.proofs.Common.{◌≡◌, ◌*◌, ◌≤◌, ◌^◌, length, take}
use Rattle.std.specs.Prelude.{unsigned_abs}
use Rattle.e_literal.specs.Absurd.{total}
use Rattle.e_fraction.specs.Views.{with_multipliers}
use Rattle.e_fraction.proofs.sum.total.Given as goal

abbrev pub invariant-loop-row : goal.invariant-loop-row
invariant-loop-row l = record {
  value : l.sum ≡ total (with_multipliers (take (length l.yielded) l.rows) (take (length l.yielded) l.multipliers)) l.term;
  size : unsigned_abs l.sum ≤ length l.yielded * 2 ^ 110;
}
