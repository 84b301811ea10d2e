-- The search through matches, places, rules.
use Rattle.std.proofs.Common.{◌≡◌, ℕ, suc, ◌+◌, ◌-◌, ◌<◌, ◌≤◌, List, [], ◌∷◌, ◌++◌, refl, sym, ap, ◌∙◌, subst, arith, true, false, true≢false, get_or, length, map, inl, inr, Option, Some, None}
use Rattle.std.specs.Prelude.{slice_get, nat_le, nat_lt, All}
use Rattle.std.specs.Option.{option_map_or}
use Rattle.std.proofs.lemmas.Bool.{ltb-true, or_cases}
use Rattle.std.proofs.lemmas.List.Elements.{All-nil, All-cons}
use Rattle.std.proofs.lemmas.List.{length-map}
use Rattle.e_literal.specs.declared.object.Obj.{Obj}
use Rattle.e_literal.specs.declared.object.Scope.{Scope}
use Rattle.e_literal.specs.declared.literal.Lit.{Lit}
use Rattle.e_literal.specs.Literal.{negation}
use Rattle.e_literal.specs.Same.{same_lit}
use Rattle.e_literal.specs.Facts.{has, has_all, others}
use Rattle.e_literal.proofs.Booleans.{and_left, and_right}
use Rattle.e_clause.specs.declared.cert.TransferCert.{TransferCert}
use Rattle.e_clause.specs.Rows.{Row}
use Rattle.e_clause.specs.Table.{table}
use Rattle.e_clause.specs.Instance.{number, lit_at, clause_of}
use Rattle.e_clause.specs.Transfer.{NegationsStand, TransferOf, TransferConsequence}
use Rattle.e_clause.specs.Wide.{TransferFromFacts}
use Rattle.e_transfer.specs.declared.equations.Equation.{Equation}
use Rattle.e_transfer.specs.declared.plan.Plan.{Plan}
use Rattle.e_transfer.specs.declared.query.Strength.{Strength}
use Rattle.e_transfer.specs.declared.query.Strength.TheVariants as strength
use Rattle.e_transfer.specs.declared.unify.Binding.{Binding}
use Rattle.e_transfer.specs.declared.walk.Span.{Span}
use Rattle.e_transfer.specs.declared.walk.Verdict.{Verdict}
use Rattle.e_transfer.specs.declared.walk.Verdict.TheVariants as verdict
use Rattle.e_transfer.specs.inner.Equations.{all_agree, some_agree}
use Rattle.e_transfer.specs.Choice.{FitsSpans, NoneWanted}
use Rattle.e_transfer.specs.inner.Plans.{IsPlanFor}
use Rattle.e_transfer.specs.inner.Matches.{Cover}
use Rattle.e_transfer.specs.inner.Bindings.{BindingsAgree, BindingsAre}
use Rattle.e_transfer.specs.GivenGoals.{RuleSearchIs, needs_beside, Suffices, GivesGoal, NoneWithBindings, NoneWithEquations, NoneAt, NoneOf, NoneGives, NarrowTransfer}
use Rattle.e_transfer.specs.Verdicts.{SearchIs}
use Rattle.e_transfer.specs.inner.SearchedPlaces.{Wanted, Shown}
use Rattle.e_transfer.proofs.Instances.{of_instance, at_map}
use Rattle.e_transfer.proofs.Needs.{some_place, place_below}

-- ---- one search

pub fits_length : (spans : List Span) (c : List ℕ) → FitsSpans spans c → length c ≡ length spans
fits_length [] [] fits = refl
fits_length [] (v ∷ vs) fits = absurd fits
fits_length (n ∷ ns) [] fits = absurd fits
fits_length (n ∷ ns) (v ∷ vs) fits = ap (λ k. suc k) (fits_length ns vs fits.2)

-- where no choice is wanted, no instance over the scope with these bindings gives the goal
pub none_tied : (m : Strength) (scope : Scope) (facts : List Lit) (goal : Lit) (rule place : ℕ) (r : Row) (bindings : List Binding) (plan : Plan) → slice_get table rule ≡ Some r
    → IsPlanFor r scope bindings plan → NoneWanted (Wanted m scope facts goal rule place plan) [] plan.spans.items → NoneWithBindings m scope facts goal rule place bindings
none_tied m scope facts goal rule place r bindings plan at is none args agree gives =
    let of = of_instance rule args r gives.lits at gives.instance in
    let reached = is.reaches args of.0 gives.over agree in
    none reached.0 reached.1 (record {
      row = r;
      of_table = at;
      ready_at = is.ready_at;
      below = is.below;
      gives = subst (λ (os : List Obj). GivesGoal m scope facts goal rule place os) (sym reached.2) gives;
    })

abbrev pub Kept : Type 1
Kept = List ℕ → Type 0

-- a whole choice has a certificate
pub none_unshown : (scope : Scope) (facts : List Lit) (goal : Lit) (kept wanted : Kept) (wide : List ℕ → ℕ → Type 0) (spans all : List Span) (before after : List ℕ)
    (o : Verdict (Option TransferCert)) → all ≡ spans → before ≡ [] → o ≡ verdict.Yes None
    → SearchIs kept (Shown scope facts goal (length spans)) wide wanted all before after o → ⊥
none_unshown scope facts goal kept wanted wide spans all before after o one empty is claim =
    let found = subst (λ (x : Verdict (Option TransferCert)). SearchIs kept (Shown scope facts goal (length spans)) wide wanted all before after x) is claim in
    let c = found.0 in
    let many : length c ≡ length spans = fits_length all c found.1 ∙ ap length one in
    let ends : length after ≡ length c = ap length (found.3 ∙ ap (λ (b : List ℕ). b ++ c) empty) in
    let less = found.4 in
    omega (arith, many, ends, less)

pub none_wanted : (kept wanted : Kept) (shown : List ℕ → Option TransferCert → Type 0) (wide : List ℕ → ℕ → Type 0) (spans all : List Span) (before after : List ℕ)
    (o : Verdict (Option TransferCert)) → all ≡ spans → before ≡ [] → o ≡ verdict.No → SearchIs kept shown wide wanted all before after o → NoneWanted wanted [] spans
none_wanted kept wanted shown wide spans all before after o one empty is claim =
    let none = subst (λ (x : Verdict (Option TransferCert)). SearchIs kept shown wide wanted all before after x) is claim in
    subst (λ (b : List ℕ). NoneWanted wanted b spans) empty (subst (λ (ss : List Span). NoneWanted wanted before ss) one none.1)

-- where the bindings are those of the equations
pub none_bound : (m : Strength) (scope : Scope) (facts : List Lit) (goal : Lit) (rule place : ℕ) (equations : List Equation) (bindings : List Binding)
    → ((f : ℕ → ℕ) → all_agree f equations ≡ true → BindingsAgree f bindings) → NoneWithBindings m scope facts goal rule place bindings → NoneWithEquations m scope facts goal rule place equations
none_bound m scope facts goal rule place equations bindings are none args agree = none args (are (number args) agree)

-- or where no numbers are as the equations say
pub none_unbound : (m : Strength) (scope : Scope) (facts : List Lit) (goal : Lit) (rule place : ℕ) (equations : List Equation) → ((f : ℕ → ℕ) → all_agree f equations ≡ true → ⊥)
    → NoneWithEquations m scope facts goal rule place equations
none_unbound m scope facts goal rule place equations fails args agree gives = fails (number args) agree

pub bindings_some : (total : ℕ) (equations : List Equation) (o : Option (List Binding)) (ts us : List Binding) → o ≡ Some ts → us ≡ ts → BindingsAre total equations o
    → (f : ℕ → ℕ) → all_agree f equations ≡ true → BindingsAgree f us
bindings_some total equations o ts us is same claim f agree =
    subst (λ (t : List Binding). BindingsAgree f t) (sym same) ((subst (λ (x : Option (List Binding)). BindingsAre total equations x) is claim).1 f agree)

pub bindings_none : (total : ℕ) (equations : List Equation) (o : Option (List Binding)) → o ≡ None → BindingsAre total equations o → (f : ℕ → ℕ) → all_agree f equations ≡ true → ⊥
bindings_none total equations o is claim = subst (λ (x : Option (List Binding)). BindingsAre total equations x) is claim

pub search_weaker : (m : Strength) (scope : Scope) (facts : List Lit) (goal : Lit) (A B : Type 0) → (A → B) → (o : Verdict TransferCert) → RuleSearchIs m scope facts goal A o
    → RuleSearchIs m scope facts goal B o
search_weaker m scope facts goal A B f (verdict.Yes cert) claim = claim
search_weaker m scope facts goal A B f verdict.No claim = f claim
search_weaker m scope facts goal A B f (verdict.TooWide w) claim = claim

pub search_nothing : (m : Strength) (scope : Scope) (facts : List Lit) (goal : Lit) (A : Type 0) (o : Verdict TransferCert) → o ≡ verdict.No → RuleSearchIs m scope facts goal A o → A
search_nothing m scope facts goal A o is claim = subst (λ (x : Verdict TransferCert). RuleSearchIs m scope facts goal A x) is claim

-- ---- the matches

match_that_agrees : (f : ℕ → ℕ) (matches : List (List Equation)) → some_agree f matches ≡ true → (k : ℕ) × (k < length matches) × (all_agree f (get_or matches k []) ≡ true)
match_that_agrees f [] some = absurd (true≢false (sym some))
match_that_agrees f (w ∷ ws) some = elim (or_cases (all_agree f w) (some_agree f ws) some) [
  | inl here ↦ (0, omega arith, here)
  | inr later ↦ (let found = match_that_agrees f ws later in let below = found.1 in (suc found.0, omega (arith, below), found.2))
]

-- where no match of a cover gives the goal, none does
pub none_at : (m : Strength) (scope : Scope) (facts : List Lit) (goal : Lit) (rule place : ℕ) (r : Row) (l : Lit) (matches : List (List Equation)) → slice_get table rule ≡ Some r
    → slice_get (clause_of r) place ≡ Some l → Cover r l goal matches → ((k : ℕ) → k < length matches → NoneWithEquations m scope facts goal rule place (get_or matches k []))
    → NoneAt m scope facts goal rule place
none_at m scope facts goal rule place r l matches at one cover none args gives =
    let of = of_instance rule args r gives.lits at gives.instance in
    let is : slice_get gives.lits place ≡ Some (lit_at r args l) = ap (λ (ls : List Lit). slice_get ls place) of.1 ∙ at_map (lit_at r args) (clause_of r) place l one in
    let same : same_lit (lit_at r args l) goal ≡ true = sym (ap (λ (o : Option Lit). option_map_or (λ k. same_lit k goal) o false) is) ∙ gives.here in
    let found = match_that_agrees (number args) matches (cover (number args) same) in
    none found.0 found.1 args found.2 gives

-- ---- places and rules

-- where none has it at a place of the clause, none has it
pub none_of : (m : Strength) (scope : Scope) (facts : List Lit) (goal : Lit) (rule : ℕ) (r : Row) (n : ℕ) → slice_get table rule ≡ Some r → length (clause_of r) ≤ n
    → ((p : ℕ) → p < n → NoneAt m scope facts goal rule p) → NoneOf m scope facts goal rule
none_of m scope facts goal rule r n at most none place args gives =
    let of = of_instance rule args r gives.lits at gives.instance in
    let below = place_below gives.lits place goal gives.here in
    let many = ap length of.1 ∙ length-map (clause_of r) (lit_at r args) in
    none place (omega (arith, below, many, most)) args gives

-- where none of the 29 clauses gives it, no transfer clause does
pub none_gives : (m : Strength) (scope : Scope) (facts : List Lit) (goal : Lit) (n : ℕ) → 29 ≤ n → ((k : ℕ) → k < n → NoneOf m scope facts goal (76 + k))
    → NoneGives m scope facts goal
none_gives m scope facts goal n most none rule transfer =
    let low : 76 ≤ rule = ltb-true 75 rule (and_left (nat_le 76 rule) (nat_lt rule 105) transfer) in
    let high = ltb-true rule 105 (and_right (nat_le 76 rule) (nat_lt rule 105) transfer) in
    let is : 76 + (rule - 76) ≡ rule = omega (arith, low) in
    subst (λ (k : ℕ). NoneOf m scope facts goal k) is (none (rule - 76) (omega (arith, high, low, most)))

-- ---- no instance at all

no_instance : (m : Strength) (scope : Scope) (facts lits : List Lit) (goal : Lit) → NoneGives m scope facts goal → TransferOf scope goal lits
    → All (Suffices m facts) (needs_beside lits goal) → ⊥
no_instance m scope facts lits goal none of enough =
    let place = some_place lits goal of.is_one in
    none of.rule of.is_transfer place.0 of.args (record { lits = lits; instance = of.instance; over = of.over_scope; here = place.1; suffice = enough })

all_facts : (facts ls : List Lit) → has_all facts ls ≡ true → All (Suffices strength.Facts facts) ls
all_facts facts [] all = All-nil (Suffices strength.Facts facts)
all_facts facts (l ∷ ls) all =
    All-cons (Suffices strength.Facts facts) l ls (and_left (has facts l) (has_all facts ls) all) (all_facts facts ls (and_right (has facts l) (has_all facts ls) all))

pub not_plain : (scope : Scope) (facts : List Lit) (goal : Lit) → NoneGives strength.Facts scope facts goal → TransferFromFacts scope facts goal → ⊥
not_plain scope facts goal none transfer =
    no_instance strength.Facts scope facts transfer.lits goal none transfer.of (all_facts facts (needs_beside transfer.lits goal) transfer.rest)

all_hold : (facts ls : List Lit) → NegationsStand facts ls → All (Suffices strength.Sums facts) (map negation ls)
all_hold facts [] hold = All-nil (Suffices strength.Sums facts)
all_hold facts (l ∷ ls) hold = All-cons (Suffices strength.Sums facts) (negation l) (map negation ls) hold.0 (all_hold facts ls hold.1)

pub not_consequence : (scope : Scope) (facts : List Lit) (goal : Lit) → NoneGives strength.Sums scope facts goal → TransferConsequence scope facts goal → ⊥
not_consequence scope facts goal none transfer =
    no_instance strength.Sums scope facts transfer.lits goal none transfer.of (all_hold facts (others transfer.lits goal) transfer.rest)

pub not_narrow : (scope : Scope) (facts : List Lit) (goal : Lit) → NoneGives strength.NarrowSums scope facts goal → NarrowTransfer scope facts goal → ⊥
not_narrow scope facts goal none transfer = no_instance strength.NarrowSums scope facts transfer.lits goal none transfer.of transfer.rest
