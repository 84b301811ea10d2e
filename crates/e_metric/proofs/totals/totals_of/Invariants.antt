use Rattle.std.proofs.Common.{◌≡◌, ◌*◌, ◌≤◌, ◌^◌, take}
use Rattle.std.specs.Prelude.{unsigned_abs}
use Rattle.e_literal.specs.declared.object.Term.{Term}
use Rattle.e_literal.specs.Absurd.{total}
use Rattle.e_fraction.specs.Views.{with_multipliers}
use Rattle.e_metric.specs.inner.TermTotals.{kept_total}
use Rattle.e_metric.proofs.totals.totals_of.Given as goal

abbrev pub invariant-loop-i : goal.invariant-loop-i
invariant-loop-i l = record {
  value : (t : Term) → kept_total l.totals.entries t ≡ total (with_multipliers (take l.i l.rows) (take l.i l.weights)) t;
  size : (t : Term) → unsigned_abs (kept_total l.totals.entries t) ≤ l.i * 2 ^ 110;
}
