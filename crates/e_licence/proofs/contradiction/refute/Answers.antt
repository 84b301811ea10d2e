use Rattle.std.proofs.Common.{subst, ◌≡◌, true, false, None}
use Rattle.e_clause.specs.Clash.{clash}
use Rattle.e_clause.specs.LimitedFacts.{are_limited_facts}
use Rattle.e_licence.specs.inner.Clashes.{IsClashOf, IsClashing}
use Rattle.e_licence.proofs.Clashes.{by_clash}
use Rattle.e_licence.proofs.contradiction.refute.Goals as goal

pub returns-in-Some : goal.returns-in-Some
returns-in-Some c =
    let found : IsClashOf c.facts.result.now c.in_ok-lit.field-0 = c.in_ok-lit.ensures in
    by_clash c.args.context.now c.in-Some.lit (subst (λ facts. are_limited_facts c.args.context.now.scope facts ≡ true) c.facts.ensures.facts c.facts.ensures.limited)
    (subst (λ facts. IsClashing facts c.in-Some.lit) c.facts.ensures.facts (subst (IsClashOf c.facts.result.now) c.in-Some.is found))

pub by_arithmetic-refuted-requires-clause-no_clash : goal.by_arithmetic-refuted-requires-clause-no_clash
by_arithmetic-refuted-requires-clause-no_clash c =
    let none : c.in_ok-lit.field-0 ≡ None = c.in_default.is in
    let found : IsClashOf c.facts.result.now c.in_ok-lit.field-0 = c.in_ok-lit.ensures in
    subst (λ facts. clash facts ≡ false) c.facts.ensures.facts (subst (IsClashOf c.facts.result.now) none found)
