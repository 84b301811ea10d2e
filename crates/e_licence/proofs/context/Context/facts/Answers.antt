use Rattle.std.proofs.Common.{◌≡◌, subst, true}
use Rattle.e_clause.specs.LimitedFacts.{are_limited_facts}
use Rattle.e_licence.specs.Contexts.{Basis}
use Rattle.e_licence.proofs.context.Context.facts.Goals as goal

pub returns-clause-limited : goal.returns-clause-limited
returns-clause-limited c = subst (λ (b : Basis). are_limited_facts b.scope c.self.inside.facts ≡ true) c.self.view_is c.self.invariant.good
