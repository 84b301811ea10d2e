use Rattle.std.proofs.Common.{◌≡◌, ◌++◌, drop, map}
use Rattle.e_literal.specs.Same.{canonical}
use Rattle.e_metric.proofs.assigning.add_sum.Given as goal

abbrev pub invariant-loop-m : goal.invariant-loop-m
invariant-loop-m l =
    l.terms.items ++ map (λ m. canonical m.term) (drop l.m-index l.sum) ≡ l.initial.terms.items ++ map (λ m. canonical m.term) l.sum
