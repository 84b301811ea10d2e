use Rattle.std.proofs.Common.{◌≡◌, take, drop}
use Rattle.e_clause.specs.Assignment.{terms_of_lits}
use Rattle.e_clause.specs.System.{of_kind}
use Rattle.e_metric.specs.ListedTerms.{with_listed}
use Rattle.e_metric.proofs.listing.add_facts.Given as goal

abbrev pub invariant-loop-fact : goal.invariant-loop-fact
invariant-loop-fact l = l.terms.items ≡ with_listed l.initial.terms.items (terms_of_lits (of_kind l.which (take l.fact-index (drop l.from l.facts))))
