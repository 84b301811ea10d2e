use Rattle.std.proofs.Common.{◌≡◌, drop}
use Rattle.e_metric.specs.inner.FurtherRows.{values_extended}
use Rattle.e_metric.proofs.evaluating.values_with.Given as goal

abbrev pub invariant-loop-term : goal.invariant-loop-term
invariant-loop-term l = values_extended l.facts l.pairs.items (drop l.term-index l.fresh) ≡ values_extended l.facts l.values l.fresh
