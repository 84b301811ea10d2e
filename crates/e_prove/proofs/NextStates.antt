-- Contexts that grow.
use Rattle.std.proofs.Common.{◌≡◌, ℕ, ◌≤◌, List, [], ◌∷◌, ◌++◌, length, drop, get_or, ◌<◌, ◌+◌, refl, sym, ap, ◌∙◌, subst, Bool, true, false, arith}
use Rattle.std.specs.Prelude.{nat_le, flat_map, if◌then◌else◌}
use Rattle.std.proofs.lemmas.Grind.{common_steps, flat_map-append}
use Rattle.std.proofs.lemmas.List.{length-append}
use Rattle.std.proofs.lemmas.Bool.Decides.{nat_tests}
use Rattle.std.proofs.lemmas.List.Folds.{list_all-append}
use Rattle.std.proofs.lemmas.Bool.{and_from}
use Rattle.e_literal.specs.declared.object.Scope.{Scope}
use Rattle.e_literal.specs.declared.object.Sort.{Sort}
use Rattle.e_literal.specs.declared.object.Term.{Term}
use Rattle.e_literal.specs.declared.literal.Lit.{Lit}
use Rattle.e_literal.specs.Facts.{has, with_fact, with_facts}
use Rattle.e_literal.specs.declared.object.Obj.{Obj}
use Rattle.e_literal.specs.Scopes.{with_sorts}
use Rattle.e_literal.specs.Use.{StatementView, gives_of_use}
use Rattle.e_literal.proofs.Booleans.{and_left, and_right}
use Rattle.e_literal.proofs.GrownScopes.{grown_bounds}
use Rattle.e_clause.specs.Assignment.{terms_of_atom, terms_of_lits}
use Rattle.e_clause.specs.LimitedFacts.{is_well_formed_in, are_well_formed_in, are_few, most_terms_of_step, are_limited_facts}
use Rattle.e_construct.specs.declared.construction.Construction.{Construction}
use Rattle.e_construct.specs.Construct.{sorts_made, gives_of_construction}
use Rattle.e_construct.specs.declared.superpose.Superpose.{Superpose}
use Rattle.e_construct.specs.Superposing as superposing
use Rattle.e_deriv.specs.Naming.{with_new_names}
use Rattle.e_licence.specs.Contexts.{Basis, IsWithin}
use Rattle.e_prove.specs.declared.state_before.StateBefore.{StateBefore}
use Rattle.e_prove.specs.inner.NextStates.{after_make, after_apply, after_superposed}

-- new objects come into scope, and then what is given joins the facts
pub made_after : (construction : Construction) (names : List (List ℕ)) (x mid after : StateBefore) (sorts : List Sort) (given : List Lit) → sorts ≡ sorts_made construction →
    given ≡ gives_of_construction construction x.context.scope → mid.context ≡ record x.context { scope = with_sorts x.context.scope sorts } → mid.names ≡ with_new_names x.names sorts names →
    after ≡ record mid { context = record mid.context { facts = with_facts mid.context.facts given } } → after ≡ after_make construction names x
made_after construction names x mid after sorts given a b c d e = rw (e, c, d, b, a) refl

pub superposed_after : (superposition : Superpose) (names : List (List ℕ)) (x mid after : StateBefore) (sorts : List Sort) (given : List Lit) → sorts ≡ superposing.sorts_copied →
    given ≡ superposing.gives_of_superposition superposition x.context.scope → mid.context ≡ record x.context { scope = with_sorts x.context.scope sorts } → mid.names ≡ with_new_names x.names sorts names →
    after ≡ record mid { context = record mid.context { facts = with_facts mid.context.facts given } } → after ≡ after_superposed superposition names x
superposed_after superposition names x mid after sorts given a b c d e = rw (e, c, d, b, a) refl

pub applied_after : (t : StatementView) (args : List Obj) (names : List (List ℕ)) (x mid after : StateBefore) (sorts : List Sort) (given : List Lit) → sorts ≡ t.made →
    given ≡ gives_of_use t args x.context.scope → mid.context ≡ record x.context { scope = with_sorts x.context.scope sorts } → mid.names ≡ with_new_names x.names sorts names →
    after ≡ record mid { context = record mid.context { facts = with_facts mid.context.facts given } } → after ≡ after_apply t args names x
applied_after t args names x mid after sorts given a b c d e = rw (e, c, d, b, a) refl

-- ---- what is seen of a context

pub basis_as : (b x : Basis) (facts : List Lit) → x.scope ≡ b.scope → x.held ≡ b.held → x.facts ≡ facts → x ≡ record b { facts = facts }
basis_as b x facts scope held is =
    ap (λ s. record { scope = s; facts = x.facts; held = x.held }) scope ∙ ap (λ hs. record { scope = b.scope; facts = x.facts; held = hs }) held
    ∙ ap (λ fs. record { scope = b.scope; facts = fs; held = b.held }) is

-- where none is left all have joined
pub joined_end : (facts all whole : List Lit) (i : ℕ) → length all ≤ i → with_facts facts (drop i all) ≡ whole → facts ≡ whole
joined_end facts all whole i le h =
    let e : drop i all ≡ [] = grind (arith, common_steps) in
    sym (ap (with_facts facts) e) ∙ h

-- no object goes when some come
pub within_grown : (s t : Scope) (sorts : List Sort) → t ≡ with_sorts s sorts → IsWithin s t
within_grown s t sorts e =
    let b = grown_bounds s sorts in
    subst (IsWithin s) (sym e) (record { points = b.points; lines = b.lines; circles = b.circles })

-- ---- facts that are good

more_terms : (facts : List Lit) (l : Lit) → length (terms_of_lits facts) ≤ length (terms_of_lits (facts ++ l ∷ []))
more_terms facts l =
    let terms : Lit → List Term = λ m. terms_of_atom m.atom in
    let all = ap length (flat_map-append terms facts (l ∷ [])) ∙ length-append (terms_of_lits facts) (flat_map terms (l ∷ [])) in
    omega (arith, all)

fewer : (n m k : ℕ) → n ≤ m → nat_le m k ≡ true → nat_le n k ≡ true
fewer n m k le h = grind (arith, nat_tests)

good_unpushed : (s : Scope) (facts : List Lit) (l : Lit) → are_limited_facts s (facts ++ l ∷ []) ≡ true → are_limited_facts s facts ≡ true
good_unpushed s facts l h =
    let good = and_left (are_well_formed_in s (facts ++ l ∷ [])) (are_few (facts ++ l ∷ [])) h in
    let few = and_right (are_well_formed_in s (facts ++ l ∷ [])) (are_few (facts ++ l ∷ [])) h in
    and_from (are_well_formed_in s facts) (are_few facts)
    (and_left (are_well_formed_in s facts) (are_well_formed_in s (l ∷ [])) (sym (list_all-append (is_well_formed_in s) facts (l ∷ [])) ∙ good))
    (fewer (length (terms_of_lits facts)) (length (terms_of_lits (facts ++ l ∷ []))) most_terms_of_step (more_terms facts l) few)

good_unjoined : (s : Scope) (facts : List Lit) (l : Lit) → are_limited_facts s (with_fact facts l) ≡ true → are_limited_facts s facts ≡ true
unfolding with_fact
good_unjoined s facts l h = by (has facts l) h
  where
    by : (b : Bool) → are_limited_facts s (if b then facts else facts ++ l ∷ []) ≡ true → are_limited_facts s facts ≡ true
    by true h = h
    by false h = good_unpushed s facts l h

-- where the facts are good after some literals join they are good before
pub good_before : (s : Scope) (facts ls : List Lit) → are_limited_facts s (with_facts facts ls) ≡ true → are_limited_facts s facts ≡ true
good_before s facts [] h = h
good_before s facts (l ∷ ls) h = good_unjoined s facts l (good_before s (with_fact facts l) ls h)

-- and after the first of those that are left
pub good_left : (before x : Basis) (all left : List Lit) (l : Lit) (rest : List Lit) → x.scope ≡ before.scope →
    with_facts x.facts left ≡ with_facts before.facts all → left ≡ l ∷ rest → are_limited_facts before.scope (with_facts before.facts all) ≡ true →
    are_limited_facts x.scope (with_fact x.facts l) ≡ true
good_left before x all left l rest same whole split h =
    good_before x.scope (with_fact x.facts l) rest
    (subst (λ ls. are_limited_facts x.scope (with_facts x.facts ls) ≡ true) split
    (subst (λ s. are_limited_facts s (with_facts x.facts left) ≡ true) (sym same)
    (subst (λ facts. are_limited_facts before.scope facts ≡ true) (sym whole) h)))

-- what a construction gives may join the facts once its objects are in scope
pub good_given : (construction : Construction) (x wider : Basis) (sorts : List Sort) (given : List Lit) → sorts ≡ sorts_made construction → given ≡ gives_of_construction construction x.scope →
    wider ≡ record x { scope = with_sorts x.scope sorts } → are_limited_facts (with_sorts x.scope (sorts_made construction)) (with_facts x.facts (gives_of_construction construction x.scope)) ≡ true →
    are_limited_facts wider.scope (with_facts wider.facts given) ≡ true
good_given construction x wider sorts given a b c h = rw (c, b, a) h

-- and what a superposition gives
pub good_superposed : (superposition : Superpose) (x wider : Basis) (sorts : List Sort) (given : List Lit) → sorts ≡ superposing.sorts_copied → given ≡ superposing.gives_of_superposition superposition x.scope →
    wider ≡ record x { scope = with_sorts x.scope sorts } → are_limited_facts (with_sorts x.scope superposing.sorts_copied) (with_facts x.facts (superposing.gives_of_superposition superposition x.scope)) ≡ true →
    are_limited_facts wider.scope (with_facts wider.facts given) ≡ true
good_superposed superposition x wider sorts given a b c h = rw (c, b, a) h

-- what an application gives may join the facts once its objects are in scope
pub good_applied : (t : StatementView) (args : List Obj) (x wider : Basis) (sorts : List Sort) (given : List Lit) → sorts ≡ t.made → given ≡ gives_of_use t args x.scope →
    wider ≡ record x { scope = with_sorts x.scope sorts } → are_limited_facts (with_sorts x.scope t.made) (with_facts x.facts (gives_of_use t args x.scope)) ≡ true →
    are_limited_facts wider.scope (with_facts wider.facts given) ≡ true
good_applied t args x wider sorts given a b c h = rw (c, b, a) h

-- a copy of the literal at this place may join the facts that those before it have joined
pub good_copy : (before x : Basis) (all : List Lit) (i : ℕ) (l m : Lit) → i < length all → l ≡ get_or all i l → m ≡ l → x.scope ≡ before.scope →
    with_facts x.facts (drop i all) ≡ with_facts before.facts all → are_limited_facts before.scope (with_facts before.facts all) ≡ true →
    are_limited_facts x.scope (with_fact x.facts m) ≡ true
good_copy before x all i l m lt is same scope joins h =
    let e : drop i all ≡ l ∷ drop (i + 1) all = grind (arith, common_steps) in
    good_left before x all (drop i all) m (drop (i + 1) all) scope joins (e ∙ ap (λ k. k ∷ drop (i + 1) all) (sym same)) h
