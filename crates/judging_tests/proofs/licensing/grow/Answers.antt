use Rattle.std.proofs.Common.{◌≡◌, ◌<◌, List, [], ◌∷◌, ◌++◌, length, refl, sym, ap, ◌∙◌, subst, true, arith}
use Rattle.std.proofs.lemmas.List.{length-append}
use Rattle.e_literal.specs.declared.object.Scope.{Scope}
use Rattle.e_literal.specs.declared.literal.Lit.{Lit}
use Rattle.e_literal.specs.Facts.{with_fact}
use Rattle.e_clause.specs.LimitedFacts.{are_limited_facts}
use Rattle.e_licence.specs.Contexts.{Basis, IsWithin, state_of}
use Rattle.judging_tests.specs.Points.{one_point, equal_points}
use Rattle.judging_tests.proofs.licensing.grow.Goals as goal

abbrev two_points : Scope
two_points = record { points = 2; lines = 0; circles = 0 }

one_in_two : IsWithin one_point two_points
one_in_two = record { points = omega arith; lines = omega arith; circles = omega arith }

first_fact : are_limited_facts two_points (with_fact [] equal_points) ≡ true
unfolding with_fact
first_fact = refl

same_fact : are_limited_facts two_points (with_fact (with_fact [] equal_points) equal_points) ≡ true
unfolding with_fact
same_fact = refl

good_at : (b : Basis) (facts : List Lit) (l : Lit) → b.scope ≡ two_points → b.facts ≡ facts → l ≡ equal_points → are_limited_facts two_points (with_fact facts equal_points) ≡ true → are_limited_facts b.scope (with_fact b.facts l) ≡ true
good_at b facts l s f e h = rw (s, f, e) h

held_of : (b c : Basis) → c ≡ record b { held = b.held ++ state_of b ∷ [] } → 0 < length c.held
held_of b c e =
    let many = ap (λ (x : Basis). length x.held) e in
    let long = length-append b.held (state_of b ∷ []) in
    omega (arith, many, long)

pub widen-requires : goal.widen-requires
widen-requires c = subst (λ s. IsWithin s two_points) (sym (ap (λ (b : Basis). b.scope) c.in_ok-hold.ensures.ok ∙ c.requires.scope)) one_in_two

pub add-requires : goal.add-requires
add-requires c =
    let scope = ap (λ (b : Basis). b.scope) c.widen.ensures in
    let facts = ap (λ (b : Basis). b.facts) c.widen.ensures ∙ ap (λ (b : Basis). b.facts) c.in_ok-hold.ensures.ok ∙ c.requires.facts in
    good_at c.widen.new.self [] c.equal_points.result scope facts c.equal_points.ensures first_fact

pub add-requires-2 : goal.add-requires-2
add-requires-2 c =
    let scope = ap (λ (b : Basis). b.scope) c.in_ok-first.ensures.joined ∙ ap (λ (b : Basis). b.scope) c.widen.ensures in
    let empty = ap (λ (b : Basis). b.facts) c.widen.ensures ∙ ap (λ (b : Basis). b.facts) c.in_ok-hold.ensures.ok ∙ c.requires.facts in
    let facts = ap (λ (b : Basis). b.facts) c.in_ok-first.ensures.joined ∙ ap (λ fs. with_fact fs c.equal_points.result) empty ∙ ap (with_fact []) c.equal_points.ensures in
    good_at c.add.new.self (with_fact [] equal_points) c.equal_points-2.result scope facts c.equal_points-2.ensures same_fact

pub returns : goal.returns
returns c =
    let some = held_of c.args.context.now c.hold.new.self c.in_ok-hold.ensures.ok in
    let wider = ap (λ (b : Basis). length b.held) c.widen.ensures in
    let once = ap (λ (b : Basis). length b.held) c.in_ok-first.ensures.joined in
    let twice = ap (λ (b : Basis). length b.held) c.in_ok-second.ensures.joined in
    omega (arith, some, wider, once, twice)
