-- The search at one place of a clause: what is refused.
use Rattle.std.proofs.Common.{◌≡◌, ℕ, zero, suc, ◌<◌, ◌≤◌, List, [], ◌∷◌, ◌++◌, refl, sym, ap, ◌∙◌, subst, arith, ◌+◌, Bool, true, false, eqb, true≢false, get_or, length, map, take, ◌⊎◌, inl, inr, Some}
use mathlib.Core.Bool.{not-not}
use Rattle.std.specs.Prelude.{slice_get, nat_lt}
use Rattle.std.specs.List.{list_all}
use Rattle.std.proofs.lemmas.Bool.{ltb-true}
use Rattle.std.proofs.lemmas.Option.{same_Some}
use Rattle.e_literal.specs.declared.object.Obj.{Obj}
use Rattle.e_literal.specs.declared.object.Scope.{Scope}
use Rattle.e_literal.specs.declared.object.Sort.{Sort}
use Rattle.e_literal.specs.declared.literal.Lit.{Lit}
use Rattle.e_literal.specs.Literal.{negation, obj}
use Rattle.e_literal.specs.Same.{same_lit}
use Rattle.e_literal.specs.Facts.{is_metric}
use Rattle.e_literal.proofs.Booleans.{and_left, and_right}
use Rattle.e_clause.specs.Rows.{Row}
use Rattle.e_clause.specs.Table.{table}
use Rattle.e_clause.specs.Instance.{lit_at, clause_of}
use Rattle.e_transfer.specs.declared.plan.Plan.{Plan}
use Rattle.e_transfer.specs.declared.query.Strength.{Strength}
use Rattle.e_transfer.specs.declared.query.Strength.TheVariants as strength
use Rattle.e_transfer.specs.inner.PartsOfChoices.{arguments_from, chosen_arguments, ready_at_of, variable_sort}
use Rattle.e_clause.specs.declared.cert.TransferCert.{TransferCert}
use Rattle.e_transfer.specs.declared.walk.Verdict.{Verdict}
use Rattle.e_transfer.specs.declared.walk.Verdict.TheVariants as verdict
use Rattle.e_transfer.specs.GivenGoals.{GivesGoal, IsFittingLiteral, Suffices, InstanceIs}
use Rattle.e_transfer.specs.inner.SearchedPlaces.{Wanted, NoneFrom}
use Rattle.e_transfer.proofs.Instances.{of_instance, literal_kept, arguments_kept}
use Rattle.e_transfer.proofs.Needs.{fitting}

-- ---- arguments, one by one

arguments_on : (r : Row) (c : List ℕ) (k : ℕ) (positions : List ℕ) (v : ℕ) → v < length positions
    → arguments_from r c k (take (suc v) positions) ≡ arguments_from r c k (take v positions) ++ obj (variable_sort r (k + v)) (get_or c (get_or positions v 0) 0) ∷ []
arguments_on r c k [] v less = absurd (omega (arith, less))
arguments_on r c k (p ∷ ps) zero less =
    let e : k ≡ k + 0 = omega arith in ap (λ n. obj (variable_sort r n) (get_or c p 0) ∷ []) e
arguments_on r c k (p ∷ ps) (suc v) less =
    let e : k + 1 + v ≡ k + suc v = omega arith in
    ap (λ os. obj (variable_sort r k) (get_or c p 0) ∷ os)
    (arguments_on r c (k + 1) ps v (omega (arith, less))
    ∙ ap (λ n. arguments_from r c (k + 1) (take v ps) ++ obj (variable_sort r n) (get_or c (get_or ps v 0) 0) ∷ []) e)

-- one argument more
pub arguments_more : (r : Row) (c positions : List ℕ) (v : ℕ) → v < length positions
    → arguments_from r c 0 (take (v + 1) positions) ≡ arguments_from r c 0 (take v positions) ++ obj (variable_sort r v) (get_or c (get_or positions v 0) 0) ∷ []
arguments_more r c positions v less =
    let e : 0 + v ≡ v = omega arith in
    let more : v + 1 ≡ suc v = omega arith in
    ap (λ n. arguments_from r c 0 (take n positions)) more
    ∙ arguments_on r c 0 positions v less ∙ ap (λ n. arguments_from r c 0 (take v positions) ++ obj (variable_sort r n) (get_or c (get_or positions v 0) 0) ∷ []) e

-- one argument is added
pub argument_added : (r : Row) (c positions : List ℕ) (v : ℕ) (args new : List Obj) (s : Sort) (n : ℕ) → v < length positions → new ≡ args ++ obj s n ∷ [] → s ≡ variable_sort r v
    → n ≡ get_or c (get_or positions v 0) 0 → args ≡ arguments_from r c 0 (take v positions) → new ≡ arguments_from r c 0 (take (v + 1) positions)
argument_added r c positions v args new s n less pushed sort num before =
    pushed ∙ ap (λ x. args ++ obj x n ∷ []) sort ∙ ap (λ k. args ++ obj (variable_sort r v) k ∷ []) num
    ∙ ap (λ os. os ++ obj (variable_sort r v) (get_or c (get_or positions v 0) 0) ∷ []) before ∙ sym (arguments_more r c positions v less)

-- ---- one literal

abbrev pub IsAsked : Strength → Lit → Type 0
IsAsked m l = (m ≡ strength.Facts) ⊎ (is_metric l ≡ false)

pub unfit : (m : Strength) (facts : List Lit) (goal l : Lit) (b : Bool) → same_lit l goal ≡ false → (b ≡ false → Suffices m facts (negation l) → ⊥)
    → IsFittingLiteral m facts goal b l → ⊥
unfit m facts goal l true differs fails fits = true≢false (sym fits ∙ differs)
unfit m facts goal l false differs fails (inl is) = true≢false (sym is ∙ differs)
unfit m facts goal l false differs fails (inr enough) = fails refl enough

-- a literal that is the same as the goal is so after two negations
pub differs_twice : (l need goal : Lit) → need ≡ negation l → same_lit (negation need) goal ≡ false → same_lit l goal ≡ false
differs_twice l need goal is differs =
    ap (λ b. same_lit (record { neg = b; atom = l.atom }) goal) (sym (not-not l.neg)) ∙ ap (λ n. same_lit (negation n) goal) (sym is) ∙ differs

-- at the goal's place only the goal may hold
pub unfit_here : (m : Strength) (facts : List Lit) (goal l : Lit) (b : Bool) → same_lit l goal ≡ false → b ≡ true → IsFittingLiteral m facts goal b l → ⊥
unfit_here m facts goal l b differs here = unfit m facts goal l b differs (λ no enough. true≢false (sym here ∙ no))

-- ---- a part

pub with_row : (m : Strength) (scope : Scope) (facts : List Lit) (goal : Lit) (rule place : ℕ) (plan : Plan) (r : Row) (c : List ℕ) → slice_get table rule ≡ Some r
    → Wanted m scope facts goal rule place plan c
    → (plan.ready_at.items ≡ ready_at_of r plan.positions.items) × GivesGoal m scope facts goal rule place (chosen_arguments r plan.positions.items c)
with_row m scope facts goal rule place plan r c at wanted =
    let is : wanted.row ≡ r = same_Some wanted.row r (sym wanted.of_table ∙ at) in (
      subst (λ (x : Row). plan.ready_at.items ≡ ready_at_of x plan.positions.items) is wanted.ready_at,
      subst (λ (x : Row). GivesGoal m scope facts goal rule place (chosen_arguments x plan.positions.items c)) is wanted.gives,
    )

-- no choice is wanted that begins so, where a literal that is known cannot hold
pub excluded : (m : Strength) (scope : Scope) (facts : List Lit) (goal : Lit) (rule place : ℕ) (plan : Plan) (r : Row) (part : List ℕ) (args : List Obj) (j last : ℕ) (lit : Lit)
    → slice_get table rule ≡ Some r → args ≡ chosen_arguments r plan.positions.items part → slice_get plan.ready_at.items j ≡ Some last → last < length part
    → slice_get (map (lit_at r args) (clause_of r)) j ≡ Some lit → (IsFittingLiteral m facts goal (eqb j place) lit → ⊥)
    → NoneFrom m scope facts goal rule place plan part
excluded m scope facts goal rule place plan r part args j last lit at are last_at less here unfits rest wanted =
    let positions = plan.positions.items in
    let both = with_row m scope facts goal rule place plan r (part ++ rest) at wanted in
    let gives = both.1 in
    let of = of_instance rule (chosen_arguments r positions (part ++ rest)) r gives.lits at gives.instance in
    let last_of : slice_get (ready_at_of r positions) j ≡ Some last = ap (λ (ns : List ℕ). slice_get ns j) (sym both.0) ∙ last_at in
    let here_of : slice_get (map (lit_at r (chosen_arguments r positions part)) (clause_of r)) j ≡ Some lit =
    ap (λ (os : List Obj). slice_get (map (lit_at r os) (clause_of r)) j) (sym are) ∙ here in
    let kept : slice_get gives.lits j ≡ Some lit =
    ap (λ (ls : List Lit). slice_get ls j) of.1 ∙ literal_kept r positions part rest j last lit last_of less here_of in
    unfits (fitting m facts gives.lits goal lit place j gives.here gives.suffice kept)

each_below : (n : ℕ) (ps : List ℕ) → list_all (λ p. nat_lt p n) ps ≡ true → (i : ℕ) → i < length ps → get_or ps i 0 < n
each_below n [] all i less = absurd (omega (arith, less))
each_below n (p ∷ ps) all zero less = ltb-true p n (and_left (nat_lt p n) (list_all (λ q. nat_lt q n) ps) all)
each_below n (p ∷ ps) all (suc i) less = each_below n ps (and_right (nat_lt p n) (list_all (λ q. nat_lt q n) ps) all) i (omega (arith, less))

-- ---- a whole choice

-- none is wanted that begins with a whole choice, where its instance does not give the goal
pub refused_whole : (m : Strength) (scope : Scope) (facts : List Lit) (goal : Lit) (rule place : ℕ) (plan : Plan) (r : Row) (part : List ℕ) (args : List Obj)
    → slice_get table rule ≡ Some r → args ≡ chosen_arguments r plan.positions.items part → length plan.spans.items ≤ length part
    → ((p : ℕ) → GivesGoal m scope facts goal rule p args → ⊥) → NoneFrom m scope facts goal rule place plan part
refused_whole m scope facts goal rule place plan r part args at are whole none rest wanted =
    let positions = plan.positions.items in
    let both = with_row m scope facts goal rule place plan r (part ++ rest) at wanted in
    let below = each_below (length plan.spans.items) positions wanted.below in
    let kept = arguments_kept r positions part rest (λ i less. (let b = below i less in omega (arith, b, whole))) in
    none place (subst (λ (os : List Obj). GivesGoal m scope facts goal rule place os) (kept ∙ sym are) both.1)

pub instance_refused : (m : Strength) (scope : Scope) (facts : List Lit) (goal : Lit) (rule : ℕ) (args : List Obj) (v : Verdict TransferCert) → v ≡ verdict.No
    → InstanceIs m scope facts goal rule args v → (p : ℕ) → GivesGoal m scope facts goal rule p args → ⊥
instance_refused m scope facts goal rule args v is claim = subst (λ (x : Verdict TransferCert). InstanceIs m scope facts goal rule args x) is claim
