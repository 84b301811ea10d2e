use Rattle.std.proofs.Common.{◌≡◌, drop, map}
use Rattle.e_metric.specs.ListedTerms.{with_listed}
use Rattle.e_metric.proofs.listing.add_sum.Given as goal

abbrev pub invariant-loop-m : goal.invariant-loop-m
invariant-loop-m l =
    with_listed l.terms.items (map (λ m. m.term) (drop l.m-index l.sum)) ≡ with_listed l.initial.terms.items (map (λ m. m.term) l.sum)
