-- What is wanted of the blocks inside of a step or a close, and their flags.
use Rattle.std.proofs.Common.{◌≡◌, ℕ, ◌+◌, ◌<◌, ◌≤◌, List, [], ◌++◌, length, refl, sym, ap, ◌∙◌, subst, arith, Bool, true, ◌^◌, inl, inr, ◌⊎◌, Option, Box, Global}
use Rattle.std.specs.List.{list_all}
use Rattle.std.proofs.lemmas.Bool.{and_parts}
use Rattle.std.proofs.lemmas.List.{append_assoc, append-nil}
use Rattle.e_literal.specs.declared.object.Obj.{Obj}
use Rattle.e_literal.specs.declared.object.Scope.{Scope}
use Rattle.e_literal.specs.declared.object.Sort.{Sort}
use Rattle.e_literal.specs.declared.literal.Lit.{Lit}
use Rattle.e_literal.specs.Literal.{negation, all_in_scope}
use Rattle.e_literal.specs.Facts.{with_fact, with_facts}
use Rattle.e_literal.specs.Scopes.{with_sorts}
use Rattle.e_literal.specs.Use.{StatementView}
use Rattle.e_construct.specs.declared.construction.Construction.{Construction}
use Rattle.e_construct.specs.declared.superpose.Superpose.{Superpose}
use Rattle.e_construct.specs.Superposing as superposing
use Rattle.e_clause.specs.declared.cert.Against.{Against}
use Rattle.e_clause.specs.declared.cert.By.{By}
use Rattle.e_clause.specs.declared.cert.Cert.{Cert}
use Rattle.e_deriv.specs.declared.block.Block.{Block}
use Rattle.e_deriv.specs.declared.block.Close.{Close}
use Rattle.e_deriv.specs.declared.block.Close.TheVariants.{Qed as QedClose, Contradiction as ContradictionClose, Cases as CasesBlock, Cases' as CasesClose}
use Rattle.e_deriv.specs.declared.block.Step.{Step}
use Rattle.e_deriv.specs.declared.block.Step.TheVariants.{Cite as CiteStep, Hence as HenceStep, Make as MakeStep, Apply as ApplyStep, Claim as ClaimBlock, Superposed as SuperposedBlock}
use Rattle.e_deriv.specs.Script.{Script, Qed, Contradiction, Cases, step_script, close_script, script_of}
use Rattle.e_deriv.specs.Goal.{Goal, goal_of, are_for}
use Rattle.e_deriv.specs.Parts.{inner_of, rest_of}
use Rattle.e_deriv.specs.PlacedSteps.{placed_steps}
use Rattle.e_deriv.specs.Steps.{fits}
use Rattle.e_deriv.specs.Fitting.{is_small}
use Rattle.e_deriv.proofs.Keeping.{stay_all}
use Rattle.e_deriv.proofs.Scripts.{step_script-Claim, step_script-Superposed, close_script-Cases}
use Rattle.e_trim.specs.Looked.{Wants, no_wants, both, of_step}
use Rattle.e_trim.specs.Trimmed.{as_step, wants_outside, wants}
use Rattle.e_trim.specs.inner.Flags.{flags_of, inside_of, step_flags}
use Rattle.e_trim.specs.inner.StepState.{IsReady, CloseFits, StepWants, StepFlags, KeepsFacts, state_with, checkpoint_of, state_at}
use Rattle.e_trim.specs.declared.step_state.StepState.{StepState}
use Rattle.e_trim.specs.declared.step_state.Checkpoint.{Checkpoint}
use Rattle.e_trim.proofs.walks.Both.{both-none, both-assoc}
use Rattle.e_trim.proofs.kept_scripts.BuiltSteps.{room}
use Rattle.e_trim.proofs.walks.StepForms.{keeps_on, keeps_enough, left_back}

-- ---- into a block, and out of it

pub opened_keeps : (sorts : List Sort) (lits : List Lit) (x after : StepState) → after ≡ state_with sorts lits x → KeepsFacts x after
opened_keeps sorts lits x after e = subst (λ (y : StepState). KeepsFacts x y) (sym e) (stay_all x.facts lits)

pub block_enough : (sorts : List Sort) (lits : List Lit) (x after last : StepState) (outer : Checkpoint) → after ≡ state_with sorts lits x → KeepsFacts after last → outer ≡ checkpoint_of x → outer.facts ≤ length last.facts
block_enough sorts lits x after last outer e k o =
    let n = keeps_enough x last (keeps_on x after last (opened_keeps sorts lits x after e) k) in
    let m = ap (λ (y : Checkpoint). y.facts) o in
    omega (arith, n, m)

pub block_back : (sorts : List Sort) (lits : List Lit) (x after last left : StepState) (outer : Checkpoint) → after ≡ state_with sorts lits x → KeepsFacts after last → outer ≡ checkpoint_of x → left ≡ state_at outer last → left ≡ x
block_back sorts lits x after last left outer e k o f = f ∙ ap (λ y. state_at y last) o ∙ left_back x last (keeps_on x after last (opened_keeps sorts lits x after e) k)

pub block_ready : (before : List StatementView) (d : Script) (goal : Goal) (sorts : List Sort) (lits : List Lit) (x after : StepState) → after ≡ state_with sorts lits x → IsReady before d (with_sorts x.scope sorts) (with_facts x.facts lits) goal → IsReady before d after.scope after.facts goal
block_ready before d goal sorts lits x after e r = subst (λ (y : StepState). IsReady before d y.scope y.facts goal) (sym e) r

pub block_wants : (before : List StatementView) (d : Script) (goal : Goal) (sorts : List Sort) (lits : List Lit) (x after left : StepState) (w out : Wants) → after ≡ state_with sorts lits x → left ≡ x → w ≡ wants before d after.scope after.facts goal
    → out ≡ wants_outside left.scope left.facts w → out ≡ wants_outside x.scope x.facts (wants before d (with_sorts x.scope sorts) (with_facts x.facts lits) goal)
block_wants before d goal sorts lits x after left w out e b f o =
    o ∙ ap (λ (y : StepState). wants_outside y.scope y.facts w) b ∙ ap (wants_outside x.scope x.facts) (f ∙ ap (λ (y : StepState). wants before d y.scope y.facts goal) e)

pub block_flags : (before : List StatementView) (d : Script) (goal : Goal) (sorts : List Sort) (lits : List Lit) (x after : StepState) (old new : List Bool) → after ≡ state_with sorts lits x → new ≡ old ++ flags_of before d after.scope after.facts goal
    → new ≡ old ++ flags_of before d (with_sorts x.scope sorts) (with_facts x.facts lits) goal
block_flags before d goal sorts lits x after old new e f = f ∙ ap (λ (y : StepState). old ++ flags_of before d y.scope y.facts goal) e

-- ---- a step with no block inside

abbrev pub NoneInside : List StatementView → Step → StepState → Type 0
NoneInside before step x = (rest : Script) → (inside_of before (step_script step rest) x.scope x.facts ≡ no_wants) × (step_flags before (step_script step rest) x.scope x.facts ≡ [])

pub cite_plain : (before : List StatementView) (step : Step) (by : By) (x : StepState) → step ≡ CiteStep by → NoneInside before step x
unfolding step_script
cite_plain before step by x is rest = (ap (λ s. inside_of before (step_script s rest) x.scope x.facts) is, ap (λ s. step_flags before (step_script s rest) x.scope x.facts) is)

pub hence_plain : (before : List StatementView) (step : Step) (lit : Lit) (cert : Option Cert) (x : StepState) → step ≡ HenceStep lit cert → NoneInside before step x
unfolding step_script
hence_plain before step lit cert x is rest = (ap (λ s. inside_of before (step_script s rest) x.scope x.facts) is, ap (λ s. step_flags before (step_script s rest) x.scope x.facts) is)

pub make_plain : (before : List StatementView) (step : Step) (construction : Construction) (names : List (List ℕ)) (certs : List Cert) (x : StepState) → step ≡ MakeStep construction names certs → NoneInside before step x
unfolding step_script
make_plain before step construction names certs x is rest = (ap (λ s. inside_of before (step_script s rest) x.scope x.facts) is, ap (λ s. step_flags before (step_script s rest) x.scope x.facts) is)

pub apply_plain : (before : List StatementView) (step : Step) (theorem : ℕ) (args : List (Option Obj)) (names : List (List ℕ)) (certs : List Cert) (x : StepState) → step ≡ ApplyStep theorem args names certs → NoneInside before step x
unfolding step_script
apply_plain before step theorem args names certs x is rest = (ap (λ s. inside_of before (step_script s rest) x.scope x.facts) is, ap (λ s. step_flags before (step_script s rest) x.scope x.facts) is)

-- what the line alone wants
abbrev pub LineWants : List StatementView → Step → StepState → Wants → Wants → Type 0
LineWants before step x old new = (rest : Script) (goal : Goal) → new ≡ both old (of_step before (as_step (step_script step rest) x.scope x.facts goal))

pub plain_wants : (before : List StatementView) (step : Step) (x : StepState) (old new : Wants) → NoneInside before step x → LineWants before step x old new → StepWants before step x old new
plain_wants before step x old new n h rest goal =
    let line = of_step before (as_step (step_script step rest) x.scope x.facts goal) in
    h rest goal ∙ ap (both old) (sym (both-none line)) ∙ ap (λ v. both old (both line v)) (sym (n rest).0)

pub plain_flags : (before : List StatementView) (step : Step) (x : StepState) (old : List Bool) → NoneInside before step x → StepFlags before step x old old
plain_flags before step x old n rest = sym (append-nil old) ∙ ap (λ xs. old ++ xs) (sym (n rest).1)

-- ---- a claim, a superposition

pub claim_inside : (before : List StatementView) (step : Step) (shown : List Lit) (inner : Box Block Global) (x : StepState) (rest : Script) → step ≡ ClaimBlock shown inner
    → (inside_of before (step_script step rest) x.scope x.facts ≡ wants_outside x.scope x.facts (wants before (script_of inner.value) x.scope x.facts (goal_of shown)))
    × (step_flags before (step_script step rest) x.scope x.facts ≡ flags_of before (script_of inner.value) x.scope x.facts (goal_of shown))
claim_inside before step shown inner x rest is =
    let e = ap (λ s. step_script s rest) is ∙ step_script-Claim shown inner rest in
    (ap (λ d. inside_of before d x.scope x.facts) e, ap (λ d. step_flags before d x.scope x.facts) e)

pub superposed_inside : (before : List StatementView) (step : Step) (superposition : Superpose) (names : List (List ℕ)) (shown : List Lit) (certs : List Cert) (inner : Box Block Global) (x : StepState) (rest : Script) → step ≡ SuperposedBlock superposition names shown certs inner
    → (inside_of before (step_script step rest) x.scope x.facts ≡ wants_outside x.scope x.facts (wants before (script_of inner.value) (with_sorts x.scope superposing.sorts_copied) (with_facts x.facts (superposing.gives_of_superposition superposition x.scope)) (goal_of shown)))
    × (step_flags before (step_script step rest) x.scope x.facts ≡ flags_of before (script_of inner.value) (with_sorts x.scope superposing.sorts_copied) (with_facts x.facts (superposing.gives_of_superposition superposition x.scope)) (goal_of shown))
superposed_inside before step superposition names shown certs inner x rest is =
    let e = ap (λ s. step_script s rest) is ∙ step_script-Superposed superposition names shown certs inner rest in
    (ap (λ d. inside_of before d x.scope x.facts) e, ap (λ d. step_flags before d x.scope x.facts) e)

pub inside_wants : (before : List StatementView) (step : Step) (x : StepState) (old mid inside new : Wants) → LineWants before step x old mid → ((rest : Script) → inside_of before (step_script step rest) x.scope x.facts ≡ inside) → new ≡ both mid inside
    → StepWants before step x old new
inside_wants before step x old mid inside new h i e rest goal =
    let line = of_step before (as_step (step_script step rest) x.scope x.facts goal) in
    e ∙ ap (λ v. both v inside) (h rest goal) ∙ both-assoc old line inside ∙ ap (λ v. both old (both line v)) (sym (i rest))

pub inside_flags : (before : List StatementView) (step : Step) (x : StepState) (old inside new : List Bool) → ((rest : Script) → step_flags before (step_script step rest) x.scope x.facts ≡ inside) → new ≡ old ++ inside → StepFlags before step x old new
inside_flags before step x old inside new i e rest = e ∙ ap (λ xs. old ++ xs) (sym (i rest))

-- ---- closes

pub qed_wants : (before : List StatementView) (objects : List Obj) (certs : List Cert) (s : Scope) (facts : List Lit) (goal : Goal)
    → (wants before (Qed objects certs) s facts goal ≡ of_step before (as_step (Qed objects certs) s facts goal)) × (flags_of before (Qed objects certs) s facts goal ≡ [])
unfolding wants flags_of
qed_wants before objects certs s facts goal = (refl, refl)

pub contradiction_wants : (before : List StatementView) (against : Option Against) (s : Scope) (facts : List Lit) (goal : Goal)
    → (wants before (Contradiction against) s facts goal ≡ of_step before (as_step (Contradiction against) s facts goal)) × (flags_of before (Contradiction against) s facts goal ≡ [])
unfolding wants flags_of
contradiction_wants before against s facts goal = (refl, refl)

cases_forms : (before : List StatementView) (lit : Lit) (first second : Script) (s : Scope) (facts : List Lit) (goal : Goal)
    → (wants before (Cases lit first second) s facts goal
    ≡ both (of_step before (as_step (Cases lit first second) s facts goal)) (both (wants_outside s facts (wants before second s (with_fact facts (negation lit)) goal)) (wants_outside s facts (wants before first s (with_fact facts lit) goal))))
    × (flags_of before (Cases lit first second) s facts goal ≡ flags_of before second s (with_fact facts (negation lit)) goal ++ flags_of before first s (with_fact facts lit) goal)
unfolding wants flags_of
cases_forms before lit first second s facts goal = (refl, refl)

-- a close without blocks
abbrev pub NoBlocks : List StatementView → Close → Scope → List Lit → Goal → Type 0
NoBlocks before close s facts goal = (wants before (close_script close) s facts goal ≡ of_step before (as_step (close_script close) s facts goal)) × (flags_of before (close_script close) s facts goal ≡ [])

pub qed_plain : (before : List StatementView) (close : Close) (objects : List Obj) (certs : List Cert) (s : Scope) (facts : List Lit) (goal : Goal) → close ≡ QedClose objects certs → NoBlocks before close s facts goal
unfolding close_script
qed_plain before close objects certs s facts goal is = subst (λ c. NoBlocks before c s facts goal) (sym is) (qed_wants before objects certs s facts goal)

pub contradiction_plain : (before : List StatementView) (close : Close) (against : Option Against) (s : Scope) (facts : List Lit) (goal : Goal) → close ≡ ContradictionClose against → NoBlocks before close s facts goal
unfolding close_script
contradiction_plain before close against s facts goal is = subst (λ c. NoBlocks before c s facts goal) (sym is) (contradiction_wants before against s facts goal)

pub close_wanted : (before : List StatementView) (close : Close) (s : Scope) (facts : List Lit) (goal : Goal) (old w : Wants) → NoBlocks before close s facts goal → w ≡ both old (of_step before (as_step (close_script close) s facts goal))
    → w ≡ both old (wants before (close_script close) s facts goal)
close_wanted before close s facts goal old w n e = e ∙ ap (both old) (sym n.0)

pub close_flags : (before : List StatementView) (close : Close) (s : Scope) (facts : List Lit) (goal : Goal) (old : List Bool) → NoBlocks before close s facts goal → old ≡ old ++ flags_of before (close_script close) s facts goal
close_flags before close s facts goal old n = sym (append-nil old) ∙ ap (λ xs. old ++ xs) (sym n.1)

pub cases_wanted : (before : List StatementView) (close : Close) (lit : Lit) (first second : Box Block Global) (s : Scope) (facts : List Lit) (goal : Goal) (old line other one w v : Wants) → close ≡ CasesBlock lit first second
    → line ≡ both old (of_step before (as_step (close_script close) s facts goal))
    → other ≡ wants_outside s facts (wants before (script_of second.value) s (with_fact facts (negation lit)) goal) → one ≡ wants_outside s facts (wants before (script_of first.value) s (with_fact facts lit) goal) → v ≡ both line other → w ≡ both v one
    → w ≡ both old (wants before (close_script close) s facts goal)
cases_wanted before close lit first second s facts goal old line other one w v is l o p a b =
    let e = ap close_script is ∙ close_script-Cases lit first second in
    let own = of_step before (as_step (close_script close) s facts goal) in
    let f = cases_forms before lit (script_of first.value) (script_of second.value) s facts goal in
    b ∙ ap (λ x. both x one) (a ∙ ap (λ x. both x other) l ∙ both-assoc old own other) ∙ both-assoc old (both own other) one
    ∙ ap (both old)
    (both-assoc own other one ∙ ap (λ x. both own (both x one)) o ∙ ap (λ x. both own (both (wants_outside s facts (wants before (script_of second.value) s (with_fact facts (negation lit)) goal)) x)) p
    ∙ ap (λ d. both (of_step before (as_step d s facts goal)) (both (wants_outside s facts (wants before (script_of second.value) s (with_fact facts (negation lit)) goal)) (wants_outside s facts (wants before (script_of first.value) s (with_fact facts lit) goal)))) e
    ∙ sym (ap (λ d. wants before d s facts goal) e ∙ f.0))

pub cases_flags : (before : List StatementView) (close : Close) (lit : Lit) (first second : Box Block Global) (s : Scope) (facts : List Lit) (goal : Goal) (old mid new : List Bool) → close ≡ CasesBlock lit first second
    → mid ≡ old ++ flags_of before (script_of second.value) s (with_fact facts (negation lit)) goal → new ≡ mid ++ flags_of before (script_of first.value) s (with_fact facts lit) goal → new ≡ old ++ flags_of before (close_script close) s facts goal
cases_flags before close lit first second s facts goal old mid new is a b =
    let e = ap close_script is ∙ close_script-Cases lit first second in
    let f = cases_forms before lit (script_of first.value) (script_of second.value) s facts goal in
    let lower = flags_of before (script_of second.value) s (with_fact facts (negation lit)) goal in
    let upper = flags_of before (script_of first.value) s (with_fact facts lit) goal in
    b ∙ ap (λ xs. xs ++ upper) a ∙ append_assoc old lower upper ∙ ap (λ xs. old ++ xs) (sym (ap (λ d. flags_of before d s facts goal) e ∙ f.1))

-- ---- the form of a close that is ready

pub close_fits : (before : List StatementView) (close : Close) (s : Scope) (facts : List Lit) (goal : Goal) → IsReady before (close_script close) s facts goal → CloseFits close s goal
unfolding placed_steps close_script
close_fits before (QedClose objects certs) s facts goal r any = (and_parts (are_for goal s objects) true r.forms).0
close_fits before (ContradictionClose against) s facts goal r any = refl
close_fits before (CasesClose lit p0 n0 row0 close0 p1 n1 row1 close1) s facts goal r any =
    let whole = close_script (CasesClose lit p0 n0 row0 close0 p1 n1 row1 close1) in
    (and_parts (all_in_scope s lit) (list_all (fits before) (placed_steps before (inner_of whole) (inner_of whole) s (with_fact facts lit) goal ++ placed_steps before (rest_of whole) (rest_of whole) s (with_fact facts (negation lit)) goal)) r.forms).0

-- two more points have numbers of 16 bits
pub two_more : (s : Scope) → is_small s ≡ true → s.points + 2 < 2 ^ 16
two_more s h = (room s 2 h (omega arith)).0

pub few_copies : (sorts : List Sort) → sorts ≡ superposing.sorts_copied → length sorts < 2 ^ 15
few_copies sorts e = let n : length sorts ≡ 2 = ap length e in omega (arith, n)

-- ---- one of several forms

pub plain_of : (before : List StatementView) (step : Step) (x : StepState)
    → ((by : By) × (step ≡ CiteStep by))
    ⊎ (((lit : Lit) × (cert : Option Cert) × (step ≡ HenceStep lit cert))
    ⊎ (((construction : Construction) × (names : List (List ℕ)) × (certs : List Cert) × (step ≡ MakeStep construction names certs))
    ⊎ ((theorem : ℕ) × (args : List (Option Obj)) × (names : List (List ℕ)) × (certs : List Cert) × (step ≡ ApplyStep theorem args names certs))))
    → NoneInside before step x
plain_of before step x (inl e) = cite_plain before step e.0 x e.1
plain_of before step x (inr (inl e)) = hence_plain before step e.0 e.1 x e.2
plain_of before step x (inr (inr (inl e))) = make_plain before step e.0 e.1 e.2 x e.3
plain_of before step x (inr (inr (inr e))) = apply_plain before step e.0 e.1 e.2 e.3 x e.4

pub no_blocks : (before : List StatementView) (close : Close) (s : Scope) (facts : List Lit) (goal : Goal)
    → ((objects : List Obj) × (certs : List Cert) × (close ≡ QedClose objects certs)) ⊎ ((against : Option Against) × (close ≡ ContradictionClose against)) → NoBlocks before close s facts goal
no_blocks before close s facts goal (inl e) = qed_plain before close e.0 e.1 s facts goal e.2
no_blocks before close s facts goal (inr e) = contradiction_plain before close e.0 s facts goal e.1
