use Rattle.std.proofs.Common.{◌≡◌, drop}
use Rattle.e_metric.specs.inner.Differences.{with_summands}
use Rattle.e_metric.proofs.joining.add_terms.Given as goal

abbrev pub invariant-loop-m : goal.invariant-loop-m
invariant-loop-m l =
    with_summands l.x l.y l.form.items (drop l.m-index l.sum) ≡ with_summands l.x l.y l.initial.form.items l.sum
