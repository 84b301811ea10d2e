-- The sum over the rows passed, and its size.
use Rattle.std.proofs.Common.{◌≡◌, ◌*◌, ◌≤◌, ◌^◌, take}
use Rattle.std.specs.Prelude.{unsigned_abs, sum_by}
use Rattle.e_literal.specs.Rows.{coefficient}
use Rattle.e_fraction.proofs.widths.sizes.Given as goal

abbrev pub invariant-loop-row : goal.invariant-loop-row
invariant-loop-row l = record {
  value : l.sum ≡ sum_by (λ r. unsigned_abs (coefficient r.form l.term)) (take l.row-index l.rows);
  size : l.sum ≤ l.row-index * 2 ^ 63;
}
