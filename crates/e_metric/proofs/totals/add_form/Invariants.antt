use Rattle.std.proofs.Common.{◌≡◌, ◌+ℤ◌, ◌*ℤ◌, take}
use Rattle.e_literal.specs.declared.object.Term.{Term}
use Rattle.e_literal.specs.Rows.{coefficient}
use Rattle.e_metric.specs.inner.TermTotals.{kept_total}
use Rattle.e_metric.proofs.totals.add_form.Given as goal

abbrev pub invariant-loop-summand : goal.invariant-loop-summand
invariant-loop-summand l = (t : Term) → kept_total l.totals.entries t ≡ kept_total l.initial.totals.entries t +ℤ l.weight *ℤ coefficient (take l.summand-index l.form) t
