use Rattle.std.proofs.Common.{◌≡◌, ◌+◌, length, min, take}
use Rattle.e_clause.specs.Assignment.{terms_of_lits}
use Rattle.e_clause.specs.LimitedFacts.{most_terms_of_step}
use Rattle.e_metric.proofs.limits.capped_monomials.Given as goal

abbrev pub invariant-loop-fact : goal.invariant-loop-fact
invariant-loop-fact l = l.count ≡ min (length (terms_of_lits (take l.fact-index l.facts))) (most_terms_of_step + 1)
