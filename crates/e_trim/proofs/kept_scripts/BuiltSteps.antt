-- What is built of a step with something after it, by the flags on the pile.
use Rattle.std.proofs.Common.{◌≡◌, ℕ, zero, suc, ◌+◌, ◌<◌, ◌≤◌, ◌^◌, List, [], ◌∷◌, ◌++◌, length, refl, sym, ap, ◌∙◌, subst, arith, Bool, true, false, cond, Box, Global, length-append}
use Rattle.std.specs.List.{list_all}
use Rattle.std.proofs.lemmas.Bool.{and_parts}
use Rattle.std.proofs.lemmas.List.{append_assoc, append-nil}
use Rattle.e_literal.specs.declared.object.Obj.{Obj}
use Rattle.e_literal.specs.declared.object.Scope.{Scope}
use Rattle.e_literal.specs.declared.object.Sort.{Sort}
use Rattle.e_literal.specs.declared.literal.Lit.{Lit}
use Rattle.e_literal.specs.Literal.{negation}
use Rattle.e_literal.specs.Facts.{with_fact, with_facts}
use Rattle.e_literal.specs.Scopes.{with_sorts, next_objects}
use Rattle.e_literal.specs.Use.{StatementView, gives_of_use}
use Rattle.e_literal.proofs.Booleans.{and_left, and_right}
use Rattle.e_literal.proofs.GrownScopes.{total_grown}
use Rattle.e_construct.specs.declared.superpose.Superpose.{Superpose}
use Rattle.e_construct.specs.Construct.{sorts_made, gives_of_construction}
use Rattle.e_construct.specs.Superposing as superposing
use Rattle.e_construct.proofs.Sizes.{few_made}
use Rattle.e_clause.specs.declared.cert.Cert.{Cert}
use Rattle.e_deriv.specs.declared.block.Block.{Block}
use Rattle.e_deriv.specs.declared.block.Close.{Close}
use Rattle.e_deriv.specs.declared.block.Close.TheVariants.{Cases as CasesBlock}
use Rattle.e_deriv.specs.declared.block.Step.{Step}
use Rattle.e_deriv.specs.declared.block.Step.TheVariants.{Cite as CiteStep, Hence as HenceStep, Make as MakeStep, Apply as ApplyStep, Claim as ClaimBlock, Superposed as SuperposedBlock, Claim' as ClaimStep, Superposed' as SuperposedStep}
use Rattle.e_deriv.specs.Script.{Script, Cite, Hence, Make, Apply, Claim, Superposed, Qed, Contradiction, Cases, step_script, steps_script, close_script, script_of}
use Rattle.e_deriv.specs.Goal.{Goal, goal_of}
use Rattle.e_deriv.specs.Parts.{args_of}
use Rattle.e_deriv.specs.PlacedSteps.{PlacedStep, placed_steps, theorem_at}
use Rattle.e_deriv.specs.Fitting.{is_small, is_small_statement}
use Rattle.e_deriv.proofs.Smallness.{few_of_small, few_objects}
use Rattle.e_deriv.proofs.Scripts.{steps_script-append, step_script-Claim, step_script-Superposed}
use Rattle.e_trim.specs.Trimmed.{makes_at, is_kept, wants, trimmed_from}
use Rattle.e_trim.specs.inner.Flags.{flag, flags_of, step_flags}
use Rattle.e_trim.specs.inner.StepState.{FewKept, state_after}
use Rattle.e_trim.specs.inner.Building.{AreSmall, IsSmallStep, TakesFlag, IsBuilt, StepIsBuilt, CloseIsBuilt, BlockIsBuilt, kept_step}
use Rattle.e_trim.specs.declared.step_state.StepState.{StepState}
use Rattle.e_trim.proofs.walks.StepForms.{inner_test, all_parts, cases_parts, flags_step, trimmed_step}

-- ---- the pile

last_same : (xs ys : List Bool) (b c : Bool) → xs ++ b ∷ [] ≡ ys ++ c ∷ [] → (c ≡ b) × (ys ≡ xs)
last_same [] [] b c e = (cc, refl)
last_same [] (y ∷ ys) b c e = let n = ap length e ∙ ap (λ k. suc k) (length-append ys (c ∷ [])) in absurd (omega (arith, n))
last_same (x ∷ xs) [] b c e = let n = ap length e in let m = length-append xs (b ∷ []) in absurd (omega (arith, n, m))
last_same (x ∷ xs) (y ∷ ys) b c e =
    let r = last_same xs ys b c (tail x y (xs ++ b ∷ []) (ys ++ c ∷ []) e) in
    (r.0, ap (λ z. z ∷ ys) (head x y (xs ++ b ∷ []) (ys ++ c ∷ []) e) ∙ ap (λ zs. x ∷ zs) r.1)
  where
    tail : (x y : Bool) (xs ys : List Bool) → x ∷ xs ≡ y ∷ ys → xs ≡ ys
    tail x y xs ys e = cc

    head : (x y : Bool) (xs ys : List Bool) → x ∷ xs ≡ y ∷ ys → y ≡ x
    head x y xs ys e = cc

-- the flag on the pile is the one that is taken
pub taken : (pile left : List Bool) (kept : Bool) → pile ≡ left ++ kept ∷ [] → TakesFlag pile left kept
taken pile left kept e under inner true h =
    last_same (under ++ inner) left true kept (append_assoc under inner (true ∷ []) ∙ sym h ∙ e)
taken pile left kept e under inner false h =
    let r = last_same under left false kept (sym h ∙ e) in (r.0, r.1 ∙ sym (append-nil under))

-- an empty pile has none
pub none_taken : (pile left : List Bool) (kept : Bool) → length pile ≡ 0 → TakesFlag pile left kept
none_taken pile left kept e under inner true h =
    let n = sym e ∙ ap length h ∙ length-append under (inner ++ true ∷ []) in
    let m = length-append inner (true ∷ []) in
    absurd (omega (arith, n, m))
none_taken pile left kept e under inner false h =
    let n = sym e ∙ ap length h ∙ length-append under (false ∷ []) in absurd (omega (arith, n))

-- ---- a step

-- the flags after a step and its own lie over the others
over_step : (before : List StatementView) (step : Step) (rest : Script) (x : StepState) (goal : Goal) (pile under : List Bool) → pile ≡ under ++ flags_of before (step_script step rest) x.scope x.facts goal
    → pile
    ≡ (under ++ flags_of before rest (state_after before (step_script step rest) x).scope (state_after before (step_script step rest) x).facts goal)
    ++ flag (is_kept before (step_script step rest) x.scope x.facts (wants before rest (state_after before (step_script step rest) x).scope (state_after before (step_script step rest) x).facts goal))
    (step_flags before (step_script step rest) x.scope x.facts)
over_step before step rest x goal pile under e =
    let after = state_after before (step_script step rest) x in
    e ∙ ap (λ fs. under ++ fs) (flags_step before step rest x goal)
    ∙ sym (append_assoc under (flags_of before rest after.scope after.facts goal)
    (flag (is_kept before (step_script step rest) x.scope x.facts (wants before rest after.scope after.facts goal)) (step_flags before (step_script step rest) x.scope x.facts)))

abbrev wide : List StatementView → Step → Script → Scope → Scope
wide before step rest s = with_sorts s (makes_at before (step_script step rest))

-- a dropped step leaves what is built after it
pub built_dropped : (before : List StatementView) (kept : List Obj) (step : Step) (rest : Script) (s : Scope) (pile popped left : List Bool) (flagged : Bool) (done now : List Step) (close : Close)
    → TakesFlag pile popped flagged → flagged ≡ false → IsBuilt before kept rest (wide before step rest s) popped left done now close
    → IsBuilt before kept (step_script step rest) s pile left done now close
built_dropped before kept step rest s pile popped left flagged done now close takes off built facts goal under e =
    let x : StepState = record { scope = s; facts = facts } in
    let here = step_script step rest in
    let after = state_after before here x in
    let own = is_kept before here s facts (wants before rest after.scope after.facts goal) in
    let fs = flags_of before rest after.scope after.facts goal in
    let t = takes (under ++ fs) (step_flags before here s facts) own (over_step before step rest x goal pile under e) in
    let dropped = sym t.0 ∙ off in
    let r = built after.facts goal under (t.1 ∙ ap (λ b. (under ++ fs) ++ cond b (step_flags before here s facts) []) dropped ∙ append-nil (under ++ fs)) in
    let left_is = trimmed_step before kept step rest x goal
    ∙ ap (λ b. cond b (kept_step before kept here s facts (trimmed_from before (kept ++ next_objects s (makes_at before here)) rest after.scope after.facts goal)) (trimmed_from before kept rest after.scope after.facts goal)) dropped in
    (r.0 ∙ ap (steps_script done) (sym left_is), r.1)

-- a kept one is put before it
pub built_kept : (before : List StatementView) (kept : List Obj) (step : Step) (rest : Script) (s : Scope) (pile popped over left : List Bool) (flagged : Bool) (done now : List Step) (new : Step) (close : Close)
    → TakesFlag pile popped flagged → flagged ≡ true → StepIsBuilt before kept step s popped over new
    → IsBuilt before (kept ++ next_objects s (makes_at before (step_script step rest))) rest (wide before step rest s) over left (done ++ new ∷ []) now close
    → IsBuilt before kept (step_script step rest) s pile left done now close
built_kept before kept step rest s pile popped over left flagged done now new close takes on own_built built facts goal under e =
    let x : StepState = record { scope = s; facts = facts } in
    let here = step_script step rest in
    let after = state_after before here x in
    let own = is_kept before here s facts (wants before rest after.scope after.facts goal) in
    let fs = flags_of before rest after.scope after.facts goal in
    let more = trimmed_from before (kept ++ next_objects s (makes_at before here)) rest after.scope after.facts goal in
    let t = takes (under ++ fs) (step_flags before here s facts) own (over_step before step rest x goal pile under e) in
    let stays = sym t.0 ∙ on in
    let w = own_built rest more facts (under ++ fs) (t.1 ∙ ap (λ b. (under ++ fs) ++ cond b (step_flags before here s facts) []) stays) in
    let r = built after.facts goal under w.1 in
    let left_is = trimmed_step before kept step rest x goal
    ∙ ap (λ b. cond b (kept_step before kept here s facts more) (trimmed_from before kept rest after.scope after.facts goal)) stays in
    (r.0 ∙ steps_script-append done (new ∷ []) more ∙ ap (steps_script done) (w.0 ∙ sym left_is), r.1)

-- after the last step stands the close
pub built_close : (before : List StatementView) (kept : List Obj) (d : Script) (s : Scope) (pile left : List Bool) (done : List Step) (close : Close)
    → CloseIsBuilt before kept d s pile left close → IsBuilt before kept d s pile left done done close
built_close before kept d s pile left done close built facts goal under e = let r = built facts goal under e in (ap (steps_script done) r.0, r.1)

-- a block is built of its steps and its close
pub built_block : (before : List StatementView) (kept : List Obj) (d : Script) (s : Scope) (pile left : List Bool) (block : Block)
    → IsBuilt before kept d s pile left [] block.steps.items block.close → BlockIsBuilt before kept d s pile left block
built_block before kept d s pile left block built = built

-- ---- small scopes

pub small_rest : (before : List StatementView) (step : Step) (rest : Script) (s : Scope) → AreSmall before (step_script step rest) s → AreSmall before rest (wide before step rest s)
small_rest before step rest s r =
    let x : StepState = record { scope = s; facts = r.facts } in
    record { facts = (state_after before (step_script step rest) x).facts; goal = r.goal; small = (all_parts (λ y. is_small y.scope) before step rest x r.goal r.small).2 }

pub small_here : (before : List StatementView) (step : Step) (rest : Script) (s : Scope) → AreSmall before (step_script step rest) s → is_small s ≡ true
small_here before step rest s r =
    let x : StepState = record { scope = s; facts = r.facts } in (all_parts (λ y. is_small y.scope) before step rest x r.goal r.small).0

pub small_claim : (before : List StatementView) (shown : List Lit) (inner : Box Block Global) (s : Scope) → IsSmallStep before (ClaimBlock shown inner) s → AreSmall before (script_of inner.value) s
small_claim before shown inner s r =
    let x : StepState = record { scope = s; facts = r.small.facts } in
    let e = step_script-Claim shown inner r.rest in
    record {
      facts = r.small.facts;
      goal = goal_of shown;
      small = subst (λ d. inner_test (λ y. is_small y.scope) before d s r.small.facts ≡ true) e (all_parts (λ y. is_small y.scope) before (ClaimBlock shown inner) r.rest x r.small.goal r.small.small).1;
    }

pub small_superposed : (before : List StatementView) (superposition : Superpose) (names : List (List ℕ)) (shown : List Lit) (certs : List Cert) (inner : Box Block Global) (s : Scope) → IsSmallStep before (SuperposedBlock superposition names shown certs inner) s
    → AreSmall before (script_of inner.value) (with_sorts s superposing.sorts_copied)
small_superposed before superposition names shown certs inner s r =
    let x : StepState = record { scope = s; facts = r.small.facts } in
    let step = SuperposedBlock superposition names shown certs inner in
    let e = step_script-Superposed superposition names shown certs inner r.rest in
    record {
      facts = with_facts r.small.facts (superposing.gives_of_superposition superposition s);
      goal = goal_of shown;
      small = subst (λ d. inner_test (λ y. is_small y.scope) before d s r.small.facts ≡ true) e (all_parts (λ y. is_small y.scope) before step r.rest x r.small.goal r.small.small).1;
    }

pub small_cases : (before : List StatementView) (lit : Lit) (first second : Box Block Global) (s : Scope) → AreSmall before (close_script (CasesBlock lit first second)) s
    → (is_small s ≡ true) × AreSmall before (script_of first.value) s × AreSmall before (script_of second.value) s
small_cases before lit first second s r =
    let p = cases_parts (λ y. is_small y.scope) before lit first second s r.facts r.goal r.small in
    (p.0, record { facts = with_fact r.facts lit; goal = r.goal; small = p.1 }, record { facts = with_fact r.facts (negation lit); goal = r.goal; small = p.2 })

pub small_step : (before : List StatementView) (step : Step) (s : Scope) → IsSmallStep before step s → is_small s ≡ true
small_step before step s r = small_here before step r.rest s r.small

-- before any script
first_small : (d : Script) (s : Scope) (before : List StatementView) (facts : List Lit) (goal : Goal) → list_all (λ (y : PlacedStep). is_small y.scope) (placed_steps before d d s facts goal) ≡ true → is_small s ≡ true
unfolding placed_steps
first_small (Cite x rest) s before facts goal h = (and_parts (is_small s) (list_all (λ (y : PlacedStep). is_small y.scope) (placed_steps before rest rest s (with_fact facts x.lit) goal)) h).0
first_small (Hence lit cert rest) s before facts goal h = (and_parts (is_small s) (list_all (λ (y : PlacedStep). is_small y.scope) (placed_steps before rest rest s (with_fact facts lit) goal)) h).0
first_small (Make construction names certs rest) s before facts goal h = (and_parts (is_small s) (list_all (λ (y : PlacedStep). is_small y.scope) (placed_steps before rest rest (with_sorts s (sorts_made construction)) (with_facts facts (gives_of_construction construction s)) goal)) h).0
first_small (Apply theorem args names certs rest) s before facts goal h =
    (and_parts (is_small s) (list_all (λ (y : PlacedStep). is_small y.scope) (placed_steps before rest rest (with_sorts s (theorem_at before theorem).made) (with_facts facts (gives_of_use (theorem_at before theorem) (args_of (Apply theorem args names certs rest)) s)) goal)) h).0
first_small (Claim shown inner rest) s before facts goal h =
    (and_parts (is_small s) (list_all (λ (y : PlacedStep). is_small y.scope) (placed_steps before inner inner s facts (goal_of shown) ++ placed_steps before rest rest s (with_facts facts shown) goal)) h).0
first_small (Superposed superposition names shown certs inner rest) s before facts goal h =
    (and_parts (is_small s)
    (list_all (λ (y : PlacedStep). is_small y.scope) (placed_steps before inner inner (with_sorts s superposing.sorts_copied) (with_facts facts (superposing.gives_of_superposition superposition s)) (goal_of shown) ++ placed_steps before rest rest s (with_facts facts shown) goal)) h).0
first_small (Qed objects certs) s before facts goal h = (and_parts (is_small s) true h).0
first_small (Contradiction against) s before facts goal h = (and_parts (is_small s) true h).0
first_small (Cases lit first second) s before facts goal h =
    (and_parts (is_small s) (list_all (λ (y : PlacedStep). is_small y.scope) (placed_steps before first first s (with_fact facts lit) goal ++ placed_steps before second second s (with_fact facts (negation lit)) goal)) h).0

pub small_first : (before : List StatementView) (d : Script) (s : Scope) → AreSmall before d s → is_small s ≡ true
small_first before d s r = first_small d s before r.facts r.goal r.small

-- ---- few objects

small_among : (before : List StatementView) (k : ℕ) → list_all is_small_statement before ≡ true → length (theorem_at before k).made ≤ 3000
small_among [] k h = omega arith
small_among (t ∷ ts) zero h = let n = few_objects t (and_left (is_small_statement t) (list_all is_small_statement ts) h) in omega (arith, n)
small_among (t ∷ ts) (suc k) h = small_among ts k (and_right (is_small_statement t) (list_all is_small_statement ts) h)

-- a step makes at most 3,000 objects
pub few_makes : (before : List StatementView) (step : Step) (rest : Script) → list_all is_small_statement before ≡ true → length (makes_at before (step_script step rest)) ≤ 3000
unfolding step_script
few_makes before (CiteStep by) rest h = omega arith
few_makes before (HenceStep lit cert) rest h = omega arith
few_makes before (MakeStep construction names certs) rest h = let n = few_made construction in omega (arith, n)
few_makes before (ApplyStep theorem args names certs) rest h = small_among before theorem h
few_makes before (ClaimStep shown p0 n0 row0 close0) rest h = omega arith
few_makes before (SuperposedStep superposition names shown certs p0 n0 row0 close0) rest h = omega arith

-- so they all have numbers of 16 bits
pub room : (s : Scope) (n : ℕ) → is_small s ≡ true → n < 2 ^ 15 → (s.points + n < 2 ^ 16) × (s.lines + n < 2 ^ 16) × (s.circles + n < 2 ^ 16)
room s n h k = let f = few_of_small s h in (omega (arith, f.points, k), omega (arith, f.lines, k), omega (arith, f.circles, k))

pub few_numbers : (s : Scope) (kept : List Obj) → is_small s ≡ true → FewKept s kept → length kept < 2 ^ 16
few_numbers s kept h k = let f = few_of_small s h in omega (arith, f.points, f.lines, f.circles, k)

next_length : (s : Scope) (xs : List Sort) → length (next_objects s xs) ≡ length xs
next_length s [] = refl
next_length s (x ∷ xs) = ap (λ n. suc n) (next_length (Rattle.e_literal.specs.Scopes.with_one s x) xs)

-- more objects are in scope, whether they are kept or not
pub few_wide : (s : Scope) (xs : List Sort) (kept : List Obj) → FewKept s kept → FewKept (with_sorts s xs) kept
few_wide s xs kept k = let n = total_grown s xs in omega (arith, n, k)

pub few_more : (s : Scope) (xs : List Sort) (kept : List Obj) → FewKept s kept → FewKept (with_sorts s xs) (kept ++ next_objects s xs)
few_more s xs kept k =
    let n = total_grown s xs in
    let m = length-append kept (next_objects s xs) in
    let l = next_length s xs in
    omega (arith, n, m, l, k)
