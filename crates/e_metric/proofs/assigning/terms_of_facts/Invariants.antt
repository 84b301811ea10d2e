use Rattle.std.proofs.Common.{◌≡◌, ◌∷◌, take, map}
use Rattle.e_literal.specs.declared.object.Term.TheVariants.{Right}
use Rattle.e_literal.specs.Same.{canonical}
use Rattle.e_clause.specs.Assignment.{terms_of_lits}
use Rattle.e_metric.proofs.assigning.terms_of_facts.Given as goal

abbrev pub invariant-loop-fact : goal.invariant-loop-fact
invariant-loop-fact l = l.terms.items ≡ map canonical (Right ∷ terms_of_lits (take l.fact-index l.facts))
