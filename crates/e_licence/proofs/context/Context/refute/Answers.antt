use Rattle.std.proofs.Common.{◌≡◌, subst, ap, true}
use Rattle.e_clause.specs.LimitedFacts.{are_limited_facts}
use Rattle.e_licence.specs.inner.Clashes.{IsClashOf, IsClashing}
use Rattle.e_licence.specs.Contexts.{Basis}
use Rattle.e_licence.proofs.Clashes.{by_clash}
use Rattle.e_licence.proofs.context.Context.refute.Goals as goal

pub returns-in-Some-clause-refuted : goal.returns-in-Some-clause-refuted
returns-in-Some-clause-refuted c =
    let facts = c.self.inside.facts in
    let found : IsClashOf facts c.in_ok-lit.field-0 = c.in_ok-lit.ensures in
    by_clash c.args.self.now c.in-Some.lit (subst (λ (b : Basis). are_limited_facts b.scope b.facts ≡ true) c.self.view_is c.self.invariant.good)
    (subst (λ fs. IsClashing fs c.in-Some.lit) (ap (λ (b : Basis). b.facts) c.self.view_is) (subst (IsClashOf facts) c.in-Some.is found))
