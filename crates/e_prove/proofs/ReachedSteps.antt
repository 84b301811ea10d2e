-- Steps that licensing goes up to: what holds there, and stops before them.
use Rattle.std.proofs.Common.{◌≡◌, ℕ, ◌+◌, ◌-◌, ◌≤◌, ◌<◌, ◌^◌, List, length, drop, get_or, sym, ap, ◌∙◌, subst, None, Result, Ok, Err, arith, Box, Global}
use Rattle.std.specs.Prelude.{IfErr, OnOk, take}
use Rattle.e_literal.specs.declared.literal.Lit.{Lit}
use Rattle.e_literal.specs.Use.{StatementView}
use Rattle.e_clause.specs.declared.cert.Cert.{Cert}
use Rattle.e_construct.specs.declared.superpose.Superpose.{Superpose}
use Rattle.e_deriv.specs.declared.block.Block.{Block}
use Rattle.e_deriv.specs.declared.block.Step.{Step}
use Rattle.e_deriv.specs.declared.block.Step.TheVariants as steps
use Rattle.e_deriv.specs.declared.block.Step.TheVariants.{Claim as ClaimStep, Superposed as SuperposedStep}
use Rattle.e_deriv.specs.declared.block.Close.{Close}
use Rattle.e_deriv.specs.declared.block.Close.TheVariants.{Cases as CasesClose}
use Rattle.e_deriv.specs.declared.stop.Stop.{Stop}
use Rattle.e_deriv.specs.declared.stop.Stop.TheVariants as stop
use Rattle.e_deriv.specs.Script.{Script, Contradiction, script_of, step_script, steps_script, close_script, size}
use Rattle.e_deriv.specs.Goal.{Goal, goal_of}
use Rattle.e_deriv.proofs.Scripts.{step_script-Claim, step_script-Superposed, close_script-Cases}
use Rattle.e_prove.specs.Stops.{IsStopBefore}
use Rattle.e_prove.specs.declared.state_before.StateBefore.{StateBefore}
use Rattle.e_prove.specs.declared.stop_reason.StopReason.{StopReason}
use Rattle.e_prove.specs.declared.stop_reason.StopReason.TheVariants as stop_reason
use Rattle.e_prove.specs.inner.StopsOfSteps.{UnlessNoMemory}
use Rattle.e_prove.specs.inner.NextStates.{after_literal, after_superposed}
use Rattle.e_prove.specs.inner.PassedSteps.{IsReadyFor, IsReadyStep, Stands, ReachesStep, ReachesInStep, IsFirstPassed, IsPassed, StopsWithin, StopsInStep}
use Rattle.e_prove.proofs.StopsInLists.{before_more}
use Rattle.e_prove.proofs.PassedSteps.{reaches_first}
use Rattle.e_prove.proofs.InnerBlocks.{ClaimReady, claim_size, claim_reaches, SuperposedReady, Certifies, superposed_size, superposed_reaches, SplitReady, split_reaches_first, split_reaches_second, split_second}
use Rattle.e_prove.proofs.Blocks.{whole, all_taken}

pub on_ok_map : {A E : Type 0} (P Q : Type 0) (r : Result A E) → (P → Q) → OnOk r P → OnOk r Q
on_ok_map P Q (Ok a) f h = f h
on_ok_map P Q (Err e) f h = tt

-- out of memory is before any step
pub memory_before : {A : Type 0} (n : ℕ) (r : Result A Stop) → IfErr r (λ s. s ≡ stop.NoMemory) → IfErr r (IsStopBefore n)
memory_before n (Ok a) h = tt
memory_before n (Err s) h = subst (IsStopBefore n) (sym h) tt

-- where all is as before, so are the names
pub same_state_names : (x after : StateBefore) (h : StopReason) → UnlessNoMemory (after ≡ x) h → UnlessNoMemory (after.names ≡ x.names) h
same_state_names x after (stop_reason.Lacks wanted values) k = ap (λ z. z.names) k
same_state_names x after (stop_reason.TooWide wanted width) k = ap (λ z. z.names) k
same_state_names x after stop_reason.NoMemory k = tt

-- ---- how many steps a step has

-- what comes after it is all that can differ
pub size_apart : (step : Step) (a b : Script) → size (step_script step a) + size b ≡ size (step_script step b) + size a
unfolding step_script size
size_apart (steps.Cite by) a b = omega arith
size_apart (steps.Hence lit cert) a b = omega arith
size_apart (steps.Make construction names certs) a b = omega arith
size_apart (steps.Apply theorem args names certs) a b = omega arith
size_apart (steps.Claim' shown p0 n0 row0 close0) a b = omega arith
size_apart (steps.Superposed' superposition names shown certs p0 n0 row0 close0) a b = omega arith

pub lines_fit : (step : Step) (rest : Script) (n : ℕ) → n + size (step_script step rest) < 2 ^ 32 → (other : Script) → size (step_script step other) < 2 ^ 32 + size other
lines_fit step rest n few other = let same = size_apart step other rest in omega (arith, few, same)

-- a script of one line
pub one_line : Script
one_line = Contradiction None

pub claim_count : (shown : List Lit) (inner : Box Block Global) (rest : Script) → size (step_script (ClaimStep shown inner) rest) ≡ 1 + size (script_of inner.value) + size rest
claim_count shown inner rest = ap size (step_script-Claim shown inner rest) ∙ claim_size shown (script_of inner.value) rest

pub superposed_count : (superposition : Superpose) (names : List (List ℕ)) (shown : List Lit) (certs : List Cert) (inner : Box Block Global) (rest : Script) →
    size (step_script (SuperposedStep superposition names shown certs inner) rest) ≡ 1 + size (script_of inner.value) + size rest
superposed_count superposition names shown certs inner rest = ap size (step_script-Superposed superposition names shown certs inner rest) ∙ superposed_size superposition names shown certs (script_of inner.value) rest

-- ---- what is reached after steps that are passed

-- in the block of the step at this place
pub step_reaches : (before : List StatementView) (items seen done : List Step) (close : Script) (i : ℕ) (s : Step) (x y z : StateBefore) (goal : Goal) (first n m : ℕ) → seen ≡ items → i < length seen → s ≡ get_or seen i s →
    IsPassed before (steps_script (take i items)) x first (steps_script done) y n → IsReadyFor before (steps_script items close) x goal → ReachesInStep before s y n m z → ReachesStep before (steps_script items close) x goal first m z
step_reaches before items seen done close i s x y z goal first n m same lt is p r k =
    let left = steps_script (drop (i + 1) items) close in
    let e = whole items seen i s close same lt is in
    let ready = subst (λ d. IsReadyFor before d x goal) (sym e) r in
    subst (λ d. ReachesStep before d x goal first m z) e
    (p.reaches (step_script s left) goal (Stands z.context.scope z.context.facts) m z.names ready (k left goal (p.ready (step_script s left) goal ready)))

-- at that step itself
pub step_here : (before : List StatementView) (items seen done : List Step) (close : Script) (i : ℕ) (s : Step) (x y : StateBefore) (goal : Goal) (first n m : ℕ) → seen ≡ items → i < length seen → s ≡ get_or seen i s → n ≡ m →
    IsPassed before (steps_script (take i items)) x first (steps_script done) y n → IsReadyFor before (steps_script items close) x goal → ReachesStep before (steps_script items close) x goal first m y
step_here before items seen done close i s x y goal first n m same lt is at p r =
    step_reaches before items seen done close i s x y y goal first n m same lt is p r
    (λ rest inner ready. subst (λ k. ReachesStep before (step_script s rest) y inner n k y) at (reaches_first before (step_script s rest) y inner n))

-- in the block's close
pub close_reaches : (before : List StatementView) (items seen done : List Step) (close : Script) (i : ℕ) (x y z : StateBefore) (goal : Goal) (first n m : ℕ) → seen ≡ items → length seen ≤ i →
    IsPassed before (steps_script (take i items)) x first (steps_script done) y n → IsReadyFor before (steps_script items close) x goal → ReachesStep before close y goal n m z → ReachesStep before (steps_script items close) x goal first m z
close_reaches before items seen done close i x y z goal first n m same le p r k =
    let e = all_taken items seen i close same le in
    subst (λ w. ReachesStep before w x goal first m z) e (p.reaches close goal (Stands z.context.scope z.context.facts) m z.names (subst (λ w. IsReadyFor before w x goal) (sym e) r) k)

pub close_here : (before : List StatementView) (items seen done : List Step) (close : Script) (i : ℕ) (x y : StateBefore) (goal : Goal) (first n m : ℕ) → seen ≡ items → length seen ≤ i → n ≡ m →
    IsPassed before (steps_script (take i items)) x first (steps_script done) y n → IsReadyFor before (steps_script items close) x goal → ReachesStep before (steps_script items close) x goal first m y
close_here before items seen done close i x y goal first n m same le at p r =
    close_reaches before items seen done close i x y y goal first n m same le p r (subst (λ k. ReachesStep before close y goal n k y) at (reaches_first before close y goal n))

-- ---- a step before the one that is sought

-- it ends where this many lines say
pub step_ends : (before : List StatementView) (s d : Step) (y z : StateBefore) (n m lines : ℕ) (rest : Script) → size (step_script s rest) ≡ lines + size rest → IsPassed before (step_script s) y n (step_script d) z m → m ≡ n + lines
step_ends before s d y z n m lines rest many p = let count = p.number rest in omega (arith, count, many)

-- a stop in it is before that one
pub step_stops_before : (before : List StatementView) (s : Step) (y : StateBefore) (n lines target : ℕ) (t : Stop) (ready : IsReadyStep before s y n) → size (step_script s ready.rest) ≡ lines + size ready.rest → n + lines ≤ target → StopsInStep before s y n t →
    IsStopBefore target t
step_stops_before before s y n lines target t ready many le k =
    before_more (n + size (step_script s ready.rest) - size ready.rest) target t (omega (arith, many, le)) (k ready.rest ready.goal ready.ready).1

-- ---- blocks that are entered

pub claim_entered : (before : List StatementView) (step : Step) (shown : List Lit) (inner : Box Block Global) (x z : StateBefore) (n m : ℕ) → step ≡ ClaimStep shown inner → ClaimReady before shown (script_of inner.value) x →
    ReachesStep before (script_of inner.value) x (goal_of shown) (n + 1) m z → ReachesInStep before step x n m z
claim_entered before step shown inner x z n m is ready k rest goal r =
    subst (λ w. ReachesStep before w x goal n m z) (sym (ap (λ s. step_script s rest) is ∙ step_script-Claim shown inner rest))
    (claim_reaches before shown (script_of inner.value) rest x goal n (Stands z.context.scope z.context.facts) m z.names ready.over k)

pub superposed_entered : (before : List StatementView) (step : Step) (superposition : Superpose) (names : List (List ℕ)) (shown : List Lit) (written certs : List Cert) (inner : Box Block Global) (x z : StateBefore) (n m : ℕ) →
    step ≡ SuperposedStep superposition names shown written inner → SuperposedReady before superposition names shown (script_of inner.value) x → Certifies superposition x certs →
    ReachesStep before (script_of inner.value) (after_superposed superposition names x) (goal_of shown) (n + 1) m z → ReachesInStep before step x n m z
superposed_entered before step superposition names shown written certs inner x z n m is ready cs k rest goal r =
    subst (λ w. ReachesStep before w x goal n m z) (sym (ap (λ s. step_script s rest) is ∙ step_script-Superposed superposition names shown written inner rest))
    (superposed_reaches before superposition names shown written certs (script_of inner.value) rest x goal n (Stands z.context.scope z.context.facts) m z.names ready.fits ready.over cs k)

pub split_entered_first : (before : List StatementView) (close : Close) (lit : Lit) (first second : Box Block Global) (x z : StateBefore) (goal : Goal) (n m : ℕ) → close ≡ CasesClose lit first second →
    SplitReady before lit (script_of first.value) x goal → ReachesStep before (script_of first.value) (after_literal lit x) goal (n + 1) m z → ReachesStep before (close_script close) x goal n m z
split_entered_first before close lit first second x z goal n m is ready k =
    subst (λ w. ReachesStep before w x goal n m z) (sym (ap close_script is ∙ close_script-Cases lit first second))
    (split_reaches_first before lit (script_of first.value) (script_of second.value) x goal n (Stands z.context.scope z.context.facts) m z.names ready.over k)

pub split_entered_second : (before : List StatementView) (close : Close) (lit : Lit) (first second : Box Block Global) (x y z : StateBefore) (goal : Goal) (n next m : ℕ) → close ≡ CasesClose lit first second →
    SplitReady before lit (script_of first.value) x goal → IsFirstPassed before lit (script_of first.value) x goal y → next ≡ n + 1 + size (script_of first.value) →
    ReachesStep before (script_of second.value) y goal next m z → ReachesStep before (close_script close) x goal n m z
split_entered_second before close lit first second x y z goal n next m is ready d count k =
    subst (λ w. ReachesStep before w x goal n m z) (sym (ap close_script is ∙ close_script-Cases lit first second))
    (split_reaches_second before lit (script_of first.value) (script_of second.value) d.derived x goal n next (Stands z.context.scope z.context.facts) m z.names ready.over d.is_derived count
    (subst (λ w. ReachesStep before (script_of second.value) w goal next m z) d.is_after k))

pub split_stopped_second : (before : List StatementView) (close : Close) (lit : Lit) (first second : Box Block Global) (x y : StateBefore) (goal : Goal) (n next : ℕ) (t : Stop) → close ≡ CasesClose lit first second →
    SplitReady before lit (script_of first.value) x goal → IsFirstPassed before lit (script_of first.value) x goal y → next ≡ n + 1 + size (script_of first.value) →
    StopsWithin before (script_of second.value) y goal next t → StopsWithin before (close_script close) x goal n t
split_stopped_second before close lit first second x y goal n next t is ready d count k =
    subst (λ w. StopsWithin before w x goal n t) (sym (ap close_script is ∙ close_script-Cases lit first second))
    (split_second before lit (script_of first.value) (script_of second.value) d.derived x goal n next t ready.over d.is_derived count
    (subst (λ w. StopsWithin before (script_of second.value) w goal next t) d.is_after k))
