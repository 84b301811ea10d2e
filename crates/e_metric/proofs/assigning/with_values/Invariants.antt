use Rattle.std.proofs.Common.{◌≡◌, ◌++◌, drop, map}
use Rattle.e_metric.specs.inner.AssignedValues.{step_value}
use Rattle.e_metric.proofs.assigning.with_values.Given as goal

abbrev pub invariant-loop-term : goal.invariant-loop-term
invariant-loop-term l =
    l.pairs.items ++ map (λ t. (t, step_value l.values t)) (drop l.term-index l.terms) ≡ map (λ t. (t, step_value l.values t)) l.terms
