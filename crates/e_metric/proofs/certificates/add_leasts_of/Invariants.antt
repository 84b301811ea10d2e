use Rattle.std.proofs.Common.{◌≡◌, ◌++◌, drop}
use Rattle.e_metric.specs.inner.Certificate.{leasts}
use Rattle.e_metric.specs.inner.TermTotals.{kept_total}
use Rattle.e_metric.proofs.certificates.add_leasts_of.Given as goal

abbrev pub invariant-loop-term : goal.invariant-loop-term
invariant-loop-term l =
    l.sum.items ++ leasts (kept_total l.totals.entries) (drop l.term-index l.terms) ≡ l.initial.sum.items ++ leasts (kept_total l.totals.entries) l.terms
