-- The lines of a step with something after it, what is wanted from it on, its flags, and what is left of it.
use Rattle.std.proofs.Common.{◌≡◌, ℕ, ◌≤◌, List, [], ◌++◌, length, refl, sym, ap, ◌∙◌, subst, Bool, true, ◌&&◌, cond, Box, Global}
use Rattle.std.specs.Option.{option_map}
use Rattle.std.specs.List.{list_all}
use Rattle.std.proofs.lemmas.Bool.{and_parts}
use Rattle.std.proofs.lemmas.List.{append-nil}
use Rattle.std.proofs.lemmas.List.Folds.{list_all-append}
use Rattle.e_literal.specs.declared.object.Obj.{Obj}
use Rattle.e_literal.specs.declared.object.Scope.{Scope}
use Rattle.e_literal.specs.declared.literal.Lit.{Lit}
use Rattle.e_literal.specs.Literal.{negation}
use Rattle.e_literal.specs.Facts.{with_fact, with_facts}
use Rattle.e_literal.specs.Scopes.{with_sorts, next_objects}
use Rattle.e_literal.specs.Use.{StatementView}
use Rattle.e_construct.specs.declared.superpose.Superpose.{Superpose}
use Rattle.e_construct.specs.Superposing as superposing
use Rattle.e_clause.specs.declared.cert.Cert.{Cert}
use Rattle.e_deriv.specs.declared.block.Block.{Block}
use Rattle.e_deriv.specs.declared.block.Step.{Step}
use Rattle.e_deriv.specs.declared.block.Step.TheVariants.{Cite as CiteStep, Hence as HenceStep, Make as MakeStep, Apply as ApplyStep, Claim as ClaimBlock, Superposed as SuperposedBlock, Claim' as ClaimStep, Superposed' as SuperposedStep}
use Rattle.e_deriv.specs.declared.block.Close.TheVariants.{Cases as CasesBlock}
use Rattle.e_deriv.specs.Script.{Script, Cite, Hence, Claim, Superposed, Cases, step_script, close_script, script_of}
use Rattle.e_deriv.specs.Goal.{Goal, goal_of}
use Rattle.e_deriv.specs.Parts.{inner_of}
use Rattle.e_deriv.specs.PlacedSteps.{PlacedStep, placed_steps}
use Rattle.e_deriv.specs.Steps.{fits}
use Rattle.e_deriv.specs.Fitting.{is_small}
use Rattle.e_deriv.proofs.Keeping.{stay_on, stay_all, no_fewer}
use Rattle.e_deriv.proofs.Scripts.{step_script-Claim, step_script-Superposed, close_script-Cases}
use Rattle.e_trim.specs.Trimmed.{lit_among_kept, cert_at, by_at, joins_at, makes_at, is_kept, as_step, wants_with_step, wants, trimmed_from}
use Rattle.e_trim.specs.inner.Flags.{flag, flags_of, inside_of, step_flags}
use Rattle.e_trim.specs.inner.StepState.{IsReady, IsReadyToTrim, StepFits, KeepsFacts, state_after, checkpoint_of, state_at}
use Rattle.e_trim.specs.inner.Building.{kept_step}
use Rattle.e_trim.specs.declared.step_state.StepState.{StepState}

-- ---- lines

-- so are the lines of the block inside of a step
abbrev pub inner_test : (PlacedStep → Bool) → List StatementView → Script → Scope → List Lit → Bool
inner_test p before (Claim shown inner rest) s facts = list_all p (placed_steps before inner inner s facts (goal_of shown))
inner_test p before (Superposed superposition names shown certs inner rest) s facts =
    list_all p (placed_steps before inner inner (with_sorts s superposing.sorts_copied) (with_facts facts (superposing.gives_of_superposition superposition s)) (goal_of shown))
inner_test p before d s facts = true

abbrev lines_test : (PlacedStep → Bool) → List StatementView → Script → StepState → Goal → Bool
lines_test p before d x goal = list_all p (placed_steps before d d x.scope x.facts goal)

both_lists : (p : PlacedStep → Bool) (b : Bool) (xs ys : List PlacedStep) → (b && list_all p (xs ++ ys)) ≡ (b && (list_all p xs && list_all p ys))
both_lists p b xs ys = ap (λ c. b && c) (list_all-append p xs ys)

pub step_lines : (p : PlacedStep → Bool) (before : List StatementView) (step : Step) (rest : Script) (x : StepState) (goal : Goal)
    → lines_test p before (step_script step rest) x goal
    ≡ (p (as_step (step_script step rest) x.scope x.facts goal)
    && (inner_test p before (step_script step rest) x.scope x.facts && lines_test p before rest (state_after before (step_script step rest) x) goal))
unfolding placed_steps step_script
step_lines p before (CiteStep by) rest x goal = refl
step_lines p before (HenceStep lit cert) rest x goal = refl
step_lines p before (MakeStep construction names certs) rest x goal = refl
step_lines p before (ApplyStep theorem args names certs) rest x goal = refl
step_lines p before (ClaimStep shown p0 n0 row0 close0) rest x goal =
    let inner = inner_of (step_script (ClaimStep shown p0 n0 row0 close0) rest) in
    both_lists p (p (as_step (Claim shown inner rest) x.scope x.facts goal)) (placed_steps before inner inner x.scope x.facts (goal_of shown)) (placed_steps before rest rest x.scope (with_facts x.facts shown) goal)
step_lines p before (SuperposedStep superposition names shown certs p0 n0 row0 close0) rest x goal =
    let inner = inner_of (step_script (SuperposedStep superposition names shown certs p0 n0 row0 close0) rest) in
    both_lists p (p (as_step (Superposed superposition names shown certs inner rest) x.scope x.facts goal)) (placed_steps before inner inner (with_sorts x.scope superposing.sorts_copied) (with_facts x.facts (superposing.gives_of_superposition superposition x.scope)) (goal_of shown))
    (placed_steps before rest rest x.scope (with_facts x.facts shown) goal)

-- all of a step's lines are so: its own, those of its block, and those after it
pub all_parts : (p : PlacedStep → Bool) (before : List StatementView) (step : Step) (rest : Script) (x : StepState) (goal : Goal) → lines_test p before (step_script step rest) x goal ≡ true
    → (p (as_step (step_script step rest) x.scope x.facts goal) ≡ true) × (inner_test p before (step_script step rest) x.scope x.facts ≡ true) × (lines_test p before rest (state_after before (step_script step rest) x) goal ≡ true)
all_parts p before step rest x goal h =
    let a = and_parts (p (as_step (step_script step rest) x.scope x.facts goal)) (inner_test p before (step_script step rest) x.scope x.facts && lines_test p before rest (state_after before (step_script step rest) x) goal) (sym (step_lines p before step rest x goal) ∙ h) in
    let b = and_parts (inner_test p before (step_script step rest) x.scope x.facts) (lines_test p before rest (state_after before (step_script step rest) x) goal) a.1 in
    (a.0, b.0, b.1)

pub ready_rest : (before : List StatementView) (step : Step) (rest : Script) (x : StepState) (goal : Goal) → IsReady before (step_script step rest) x.scope x.facts goal
    → IsReady before rest (state_after before (step_script step rest) x).scope (state_after before (step_script step rest) x).facts goal
ready_rest before step rest x goal r = record {
  forms = (all_parts (fits before) before step rest x goal r.forms).2;
  scopes = (all_parts (λ y. is_small y.scope) before step rest x goal r.scopes).2;
}

pub ready_fits : (before : List StatementView) (step : Step) (rest : Script) (x : StepState) (goal : Goal) → IsReady before (step_script step rest) x.scope x.facts goal → StepFits before step x.scope
ready_fits before step rest x goal r = record { rest = rest; goal = goal; fits = (all_parts (fits before) before step rest x goal r.forms).0 }

pub ready_small : (before : List StatementView) (step : Step) (rest : Script) (x : StepState) (goal : Goal) → IsReady before (step_script step rest) x.scope x.facts goal → is_small x.scope ≡ true
ready_small before step rest x goal r = (all_parts (λ y. is_small y.scope) before step rest x goal r.scopes).0

-- the block inside of a claim, and that of a superposition
pub claim_ready : (before : List StatementView) (shown : List Lit) (inner : Box Block Global) (x : StepState) → IsReadyToTrim before (ClaimBlock shown inner) x → IsReady before (script_of inner.value) x.scope x.facts (goal_of shown)
claim_ready before shown inner x r =
    let e = step_script-Claim shown inner r.rest in
    record {
      forms = subst (λ d. inner_test (fits before) before d x.scope x.facts ≡ true) e (all_parts (fits before) before (ClaimBlock shown inner) r.rest x r.goal r.ready.forms).1;
      scopes = subst (λ d. inner_test (λ y. is_small y.scope) before d x.scope x.facts ≡ true) e (all_parts (λ y. is_small y.scope) before (ClaimBlock shown inner) r.rest x r.goal r.ready.scopes).1;
    }

pub superposed_ready : (before : List StatementView) (superposition : Superpose) (names : List (List ℕ)) (shown : List Lit) (certs : List Cert) (inner : Box Block Global) (x : StepState) → IsReadyToTrim before (SuperposedBlock superposition names shown certs inner) x
    → IsReady before (script_of inner.value) (with_sorts x.scope superposing.sorts_copied) (with_facts x.facts (superposing.gives_of_superposition superposition x.scope)) (goal_of shown)
superposed_ready before superposition names shown certs inner x r =
    let step = SuperposedBlock superposition names shown certs inner in
    let e = step_script-Superposed superposition names shown certs inner r.rest in
    record {
      forms = subst (λ d. inner_test (fits before) before d x.scope x.facts ≡ true) e (all_parts (fits before) before step r.rest x r.goal r.ready.forms).1;
      scopes = subst (λ d. inner_test (λ y. is_small y.scope) before d x.scope x.facts ≡ true) e (all_parts (λ y. is_small y.scope) before step r.rest x r.goal r.ready.scopes).1;
    }

-- the two blocks of a split
cases_lines : (p : PlacedStep → Bool) (before : List StatementView) (lit : Lit) (first second : Script) (s : Scope) (facts : List Lit) (goal : Goal)
    → list_all p (placed_steps before (Cases lit first second) (Cases lit first second) s facts goal)
    ≡ (p (as_step (Cases lit first second) s facts goal)
    && (list_all p (placed_steps before first first s (with_fact facts lit) goal) && list_all p (placed_steps before second second s (with_fact facts (negation lit)) goal)))
unfolding placed_steps
cases_lines p before lit first second s facts goal =
    both_lists p (p (as_step (Cases lit first second) s facts goal)) (placed_steps before first first s (with_fact facts lit) goal) (placed_steps before second second s (with_fact facts (negation lit)) goal)

pub cases_parts : (p : PlacedStep → Bool) (before : List StatementView) (lit : Lit) (first second : Box Block Global) (s : Scope) (facts : List Lit) (goal : Goal)
    → list_all p (placed_steps before (close_script (CasesBlock lit first second)) (close_script (CasesBlock lit first second)) s facts goal) ≡ true
    → (p (as_step (close_script (CasesBlock lit first second)) s facts goal) ≡ true)
    × (list_all p (placed_steps before (script_of first.value) (script_of first.value) s (with_fact facts lit) goal) ≡ true)
    × (list_all p (placed_steps before (script_of second.value) (script_of second.value) s (with_fact facts (negation lit)) goal) ≡ true)
cases_parts p before lit first second s facts goal h =
    let e = close_script-Cases lit first second in
    let d = Cases lit (script_of first.value) (script_of second.value) in
    let one = list_all p (placed_steps before (script_of first.value) (script_of first.value) s (with_fact facts lit) goal) in
    let other = list_all p (placed_steps before (script_of second.value) (script_of second.value) s (with_fact facts (negation lit)) goal) in
    let whole = subst (λ c. list_all p (placed_steps before c c s facts goal) ≡ true) e h in
    let a = and_parts (p (as_step d s facts goal)) (one && other) (sym (cases_lines p before lit (script_of first.value) (script_of second.value) s facts goal) ∙ whole) in
    let b = and_parts one other a.1 in
    (subst (λ c. p (as_step c s facts goal) ≡ true) (sym e) a.0, b.0, b.1)

pub cases_ready : (before : List StatementView) (lit : Lit) (first second : Box Block Global) (s : Scope) (facts : List Lit) (goal : Goal) → IsReady before (close_script (CasesBlock lit first second)) s facts goal
    → (is_small s ≡ true) × IsReady before (script_of first.value) s (with_fact facts lit) goal × IsReady before (script_of second.value) s (with_fact facts (negation lit)) goal
cases_ready before lit first second s facts goal r =
    let f = cases_parts (fits before) before lit first second s facts goal r.forms in
    let g = cases_parts (λ y. is_small y.scope) before lit first second s facts goal r.scopes in
    (g.0, record { forms = f.1; scopes = g.1 }, record { forms = f.2; scopes = g.2 })

-- ---- what is wanted from a step on

pub wants_step : (before : List StatementView) (step : Step) (rest : Script) (x : StepState) (goal : Goal)
    → wants before (step_script step rest) x.scope x.facts goal
    ≡ wants_with_step before (step_script step rest) x.scope x.facts goal (inside_of before (step_script step rest) x.scope x.facts)
    (wants before rest (state_after before (step_script step rest) x).scope (state_after before (step_script step rest) x).facts goal)
unfolding wants step_script
wants_step before (CiteStep by) rest x goal = refl
wants_step before (HenceStep lit cert) rest x goal = refl
wants_step before (MakeStep construction names certs) rest x goal = refl
wants_step before (ApplyStep theorem args names certs) rest x goal = refl
wants_step before (ClaimStep shown p0 n0 row0 close0) rest x goal = refl
wants_step before (SuperposedStep superposition names shown certs p0 n0 row0 close0) rest x goal = refl

-- ---- its flags

pub flags_step : (before : List StatementView) (step : Step) (rest : Script) (x : StepState) (goal : Goal)
    → flags_of before (step_script step rest) x.scope x.facts goal
    ≡ flags_of before rest (state_after before (step_script step rest) x).scope (state_after before (step_script step rest) x).facts goal
    ++ flag (is_kept before (step_script step rest) x.scope x.facts (wants before rest (state_after before (step_script step rest) x).scope (state_after before (step_script step rest) x).facts goal))
    (step_flags before (step_script step rest) x.scope x.facts)
unfolding flags_of step_script
flags_step before (CiteStep by) rest x goal = refl
flags_step before (HenceStep lit cert) rest x goal = refl
flags_step before (MakeStep construction names certs) rest x goal = refl
flags_step before (ApplyStep theorem args names certs) rest x goal = refl
flags_step before (ClaimStep shown p0 n0 row0 close0) rest x goal = refl
flags_step before (SuperposedStep superposition names shown certs p0 n0 row0 close0) rest x goal = refl

-- ---- what is left of it

-- the kept step with what is left after it, or that alone
abbrev pub left_of : List StatementView → List Obj → Script → Script → StepState → Goal → Script
left_of before kept here rest x goal =
    let after = state_after before here x in
    cond (is_kept before here x.scope x.facts (wants before rest after.scope after.facts goal))
    (kept_step before kept here x.scope x.facts (trimmed_from before (kept ++ next_objects x.scope (makes_at before here)) rest after.scope after.facts goal))
    (trimmed_from before kept rest after.scope after.facts goal)

-- a step that makes nothing keeps what is kept
no_more : (kept : List Obj) (left : List Obj → Script) (other : Script) (b : Bool) → cond b (left kept) other ≡ cond b (left (kept ++ [])) other
no_more kept left other b = ap (λ ks. cond b (left ks) other) (sym (append-nil kept))

pub trimmed_step : (before : List StatementView) (kept : List Obj) (step : Step) (rest : Script) (x : StepState) (goal : Goal)
    → trimmed_from before kept (step_script step rest) x.scope x.facts goal ≡ left_of before kept (step_script step rest) rest x goal
unfolding trimmed_from step_script
trimmed_step before kept (CiteStep by) rest x goal =
    let after = with_fact x.facts by.lit in
    no_more kept (λ ks. Cite (by_at kept by) (trimmed_from before ks rest x.scope after goal)) (trimmed_from before kept rest x.scope after goal) (is_kept before (Cite by rest) x.scope x.facts (wants before rest x.scope after goal))
trimmed_step before kept (HenceStep lit cert) rest x goal =
    let after = with_fact x.facts lit in
    no_more kept (λ ks. Hence (lit_among_kept kept lit) (option_map (cert_at kept) cert) (trimmed_from before ks rest x.scope after goal)) (trimmed_from before kept rest x.scope after goal)
    (is_kept before (Hence lit cert rest) x.scope x.facts (wants before rest x.scope after goal))
trimmed_step before kept (MakeStep construction names certs) rest x goal = refl
trimmed_step before kept (ApplyStep theorem args names certs) rest x goal = refl
trimmed_step before kept (ClaimStep shown p0 n0 row0 close0) rest x goal =
    let here = step_script (ClaimStep shown p0 n0 row0 close0) rest in
    let after = with_facts x.facts shown in
    no_more kept (λ ks. kept_step before kept here x.scope x.facts (trimmed_from before ks rest x.scope after goal)) (trimmed_from before kept rest x.scope after goal) (is_kept before here x.scope x.facts (wants before rest x.scope after goal))
trimmed_step before kept (SuperposedStep superposition names shown certs p0 n0 row0 close0) rest x goal =
    let here = step_script (SuperposedStep superposition names shown certs p0 n0 row0 close0) rest in
    let after = with_facts x.facts shown in
    no_more kept (λ ks. kept_step before kept here x.scope x.facts (trimmed_from before ks rest x.scope after goal)) (trimmed_from before kept rest x.scope after goal) (is_kept before here x.scope x.facts (wants before rest x.scope after goal))

-- ---- the facts stay

pub passed_keeps : (before : List StatementView) (here : Script) (x : StepState) → KeepsFacts x (state_after before here x)
passed_keeps before here x = stay_all x.facts (joins_at before here x.scope)

pub keeps_on : (x y z : StepState) → KeepsFacts x y → KeepsFacts y z → KeepsFacts x z
keeps_on x y z h k = stay_on x.facts y.facts z.facts h k

pub keeps_enough : (x y : StepState) → KeepsFacts x y → length x.facts ≤ length y.facts
keeps_enough x y h = no_fewer x.facts y.facts h

-- back to where it was
pub left_back : (x y : StepState) → KeepsFacts x y → state_at (checkpoint_of x) y ≡ x
left_back x y h = ap (λ fs. record { scope = x.scope; facts = fs }) h
