-- Blocks whose steps are licensed one after another, and what the code says of them.
use Rattle.std.proofs.Common.{◌≡◌, ◌⊎◌, inl, inr, ℕ, ◌+◌, ◌-◌, ◌≤◌, ◌<◌, ◌^◌, List, [], ◌∷◌, ◌++◌, length, drop, get_or, refl, sym, ap, ◌∙◌, subst, Option, Result, Ok, Err, arith, Box, Global}
use Rattle.std.proofs.lemmas.Grind.{common_steps}
use Rattle.std.specs.Prelude.{OnOk, take}
use Rattle.e_literal.specs.declared.literal.Lit.{Lit}
use Rattle.e_literal.specs.declared.object.Obj.{Obj}
use Rattle.e_literal.specs.Literal.{negation}
use Rattle.e_literal.specs.Use.{StatementView}
use Rattle.e_clause.specs.declared.cert.By.{By}
use Rattle.e_clause.specs.declared.cert.Cert.{Cert}
use Rattle.e_clause.specs.declared.cert.Against.{Against}
use Rattle.e_construct.specs.declared.construction.Construction.{Construction}
use Rattle.e_construct.specs.declared.superpose.Superpose.{Superpose}
use Rattle.e_construct.specs.Superposing as superposing
use Rattle.e_deriv.specs.declared.block.Block.{Block}
use Rattle.e_deriv.specs.declared.block.Step.{Step}
use Rattle.e_deriv.specs.declared.block.Step.TheVariants.{Cite as CiteStep, Hence as HenceStep, Make as MakeStep, Apply as ApplyStep, Claim as ClaimStep, Superposed as SuperposedStep}
use Rattle.e_deriv.specs.declared.block.Close.{Close}
use Rattle.e_deriv.specs.declared.block.Close.TheVariants.{Qed as QedClose, Contradiction as ContradictionClose, Cases as CasesClose}
use Rattle.e_deriv.specs.declared.stop.Stop.{Stop}
use Rattle.e_deriv.specs.Script.{Script, Superposed, Cases, script_of, step_script, steps_script, close_script, size}
use Rattle.e_deriv.specs.Goal.{Goal, goal_of}
use Rattle.e_deriv.proofs.Scripts.{steps_at, steps_script-append, step_script-Claim, step_script-Superposed, close_script-Cases}
use Rattle.e_prove.specs.declared.stop_reason.StopReason.{StopReason}
use Rattle.e_prove.specs.declared.state_before.StateBefore.{StateBefore}
use Rattle.e_prove.specs.inner.NextStates.{after_literal, after_superposed}
use Rattle.e_prove.specs.inner.StopsOfSteps.{StepStopsAmong, UnlessNoMemory, IsStopOrNoMemory}
use Rattle.e_prove.specs.inner.PassedSteps.{IsReadyFor, IsReadyStep, IsDerivedFrom, KeepsHeld, StopsWithin, IsPassed, StopsInStep}
use Rattle.e_prove.proofs.PassedSteps.{passed_none, passed_more, passed_as, stops_first, same_names}
use Rattle.e_prove.proofs.StopsInLists.{stop_within, before_more, stop_before}
use Rattle.e_prove.proofs.InnerBlocks.{ClaimReady, claim_size, claim_stops, SuperposedReady, Certifies, superposed_size, superposed_stops, superposed_step_stops, SplitReady, split_ready, split_other, split_derives, split_first, split_second}
use Rattle.e_book.proofs.parsers.KeptBlocks.{size_split}

pub on_ok : {A E : Type 0} (p : Type 0) (r : Result A E) → p → OnOk r p
on_ok p (Ok a) h = h
on_ok p (Err e) h = tt

-- ---- the steps of a block

-- the step at this place after those before it
front : (items seen : List Step) (i : ℕ) (s : Step) (d : Script) → seen ≡ items → i < length seen → s ≡ get_or seen i s →
    steps_script (take i items) (step_script s d) ≡ steps_script (take (i + 1) items) d
front items seen i s d same lt is =
    let e : take i seen ++ s ∷ [] ≡ take (i + 1) seen = grind (arith, common_steps) in
    let f : take i items ++ s ∷ [] ≡ take (i + 1) items = subst (λ xs. take i xs ++ s ∷ [] ≡ take (i + 1) xs) same e in
    sym (steps_script-append (take i items) (s ∷ []) d) ∙ ap (λ xs. steps_script xs d) f

parts : (items : List Step) (i : ℕ) (d : Script) → steps_script (take i items) (steps_script (drop i items) d) ≡ steps_script items d
parts items i d =
    let e : take i items ++ drop i items ≡ items = grind (arith, common_steps) in
    sym (steps_script-append (take i items) (drop i items) d) ∙ ap (λ xs. steps_script xs d) e

pub whole : (items seen : List Step) (i : ℕ) (s : Step) (d : Script) → seen ≡ items → i < length seen → s ≡ get_or seen i s →
    steps_script (take i items) (step_script s (steps_script (drop (i + 1) items) d)) ≡ steps_script items d
whole items seen i s d same lt is = ap (steps_script (take i items)) (sym (steps_at items seen d i s same lt is)) ∙ parts items i d

pub passed_start : (before : List StatementView) (items new : List Step) (x : StateBefore) (n : ℕ) → new ≡ [] → IsPassed before (steps_script (take 0 items)) x n (steps_script new) x n
passed_start before items new x n e =
    passed_as before (λ d. d) (λ d. d) (steps_script (take 0 items)) (steps_script new) x x n n (λ d. refl) (λ d. ap (λ xs. steps_script xs d) (sym e))
    (passed_none before x n refl)

pub step_ready : (before : List StatementView) (items seen done : List Step) (close : Script) (i : ℕ) (s : Step) (x y : StateBefore) (goal : Goal) (first n : ℕ) → seen ≡ items → i < length seen → s ≡ get_or seen i s →
    IsPassed before (steps_script (take i items)) x first (steps_script done) y n → IsReadyFor before (steps_script items close) x goal → first + size (steps_script items close) < 2 ^ 32 → IsReadyStep before s y n
step_ready before items seen done close i s x y goal first n same lt is p r few =
    let left = steps_script (drop (i + 1) items) close in
    let e = whole items seen i s close same lt is in
    let count = p.number (step_script s left) in
    let size_is = ap size e in
    record {
      rest = left;
      goal = goal;
      ready = p.ready (step_script s left) goal (subst (λ d. IsReadyFor before d x goal) (sym e) r);
      few = omega (arith, count, size_is, few);
    }

pub step_stops : (before : List StatementView) (items seen done : List Step) (close : Script) (i : ℕ) (s : Step) (x y : StateBefore) (goal : Goal) (first n : ℕ) (t : Stop) → seen ≡ items → i < length seen → s ≡ get_or seen i s →
    IsPassed before (steps_script (take i items)) x first (steps_script done) y n → IsReadyFor before (steps_script items close) x goal → StopsInStep before s y n t → StopsWithin before (steps_script items close) x goal first t
step_stops before items seen done close i s x y goal first n t same lt is p r k =
    let left = steps_script (drop (i + 1) items) close in
    let e = whole items seen i s close same lt is in
    let ready = subst (λ d. IsReadyFor before d x goal) (sym e) r in
    subst (λ d. StopsWithin before d x goal first t) e (p.stops (step_script s left) goal t ready (k left goal (p.ready (step_script s left) goal ready)).0)

pub step_passed : (before : List StatementView) (items seen done grown : List Step) (i : ℕ) (s d : Step) (x y z : StateBefore) (first n m : ℕ) → seen ≡ items → i < length seen → s ≡ get_or seen i s → grown ≡ done ++ d ∷ [] →
    IsPassed before (steps_script (take i items)) x first (steps_script done) y n → IsPassed before (step_script s) y n (step_script d) z m →
    IsPassed before (steps_script (take (i + 1) items)) x first (steps_script grown) z m
step_passed before items seen done grown i s d x y z first n m same lt is more p q =
    passed_as before (λ w. steps_script (take i items) (step_script s w)) (λ w. steps_script done (step_script d w)) (steps_script (take (i + 1) items)) (steps_script grown) x z first m
    (λ w. front items seen i s w same lt is) (λ w. sym (steps_script-append done (d ∷ []) w) ∙ ap (λ xs. steps_script xs w) (sym more))
    (passed_more before (steps_script (take i items)) (steps_script done) (step_script s) (step_script d) x y z first n m (q.kept ∙ p.kept) p q)

-- ---- the close of a block

pub all_taken : (items seen : List Step) (i : ℕ) (d : Script) → seen ≡ items → length seen ≤ i → steps_script (take i items) d ≡ steps_script items d
all_taken items seen i d same le =
    let e : take i seen ≡ seen = grind (arith, common_steps) in
    ap (λ xs. steps_script xs d) (subst (λ xs. take i xs ≡ xs) same e)

pub close_ready : (before : List StatementView) (items seen done : List Step) (close : Script) (i : ℕ) (x y : StateBefore) (goal : Goal) (first n : ℕ) → seen ≡ items → length seen ≤ i →
    IsPassed before (steps_script (take i items)) x first (steps_script done) y n → IsReadyFor before (steps_script items close) x goal → IsReadyFor before close y goal
close_ready before items seen done close i x y goal first n same le p r =
    p.ready close goal (subst (λ d. IsReadyFor before d x goal) (sym (all_taken items seen i close same le)) r)

pub close_few : (before : List StatementView) (items seen done : List Step) (close : Script) (i : ℕ) (x y : StateBefore) (first n : ℕ) → seen ≡ items → length seen ≤ i →
    IsPassed before (steps_script (take i items)) x first (steps_script done) y n → first + size (steps_script items close) ≡ n + size close
close_few before items seen done close i x y first n same le p =
    ap (λ d. first + size d) (sym (all_taken items seen i close same le)) ∙ p.number close

pub close_derived : (before : List StatementView) (items seen done : List Step) (close derived : Script) (i : ℕ) (x y : StateBefore) (goal : Goal) (first n : ℕ) → seen ≡ items → length seen ≤ i →
    IsPassed before (steps_script (take i items)) x first (steps_script done) y n → IsReadyFor before (steps_script items close) x goal → IsDerivedFrom before close y goal derived →
    IsDerivedFrom before (steps_script items close) x goal (steps_script done derived)
close_derived before items seen done close derived i x y goal first n same le p r d =
    let e = all_taken items seen i close same le in
    subst (λ w. IsDerivedFrom before w x goal (steps_script done derived)) e (p.derives close derived goal (subst (λ w. IsReadyFor before w x goal) (sym e) r) d)

pub close_stops : (before : List StatementView) (items seen done : List Step) (close : Script) (i : ℕ) (x y : StateBefore) (goal : Goal) (first n : ℕ) (t : Stop) → seen ≡ items → length seen ≤ i →
    IsPassed before (steps_script (take i items)) x first (steps_script done) y n → IsReadyFor before (steps_script items close) x goal → StopsWithin before close y goal n t → StopsWithin before (steps_script items close) x goal first t
close_stops before items seen done close i x y goal first n t same le p r k =
    let e = all_taken items seen i close same le in
    subst (λ w. StopsWithin before w x goal first t) e (p.stops close goal t (subst (λ w. IsReadyFor before w x goal) (sym e) r) k)

pub kept_on : (x y z : StateBefore) → KeepsHeld x y → KeepsHeld y z → KeepsHeld x z
kept_on x y z h k = k ∙ h

-- ---- blocks that are left

pub kept_literal : (lit : Lit) (x y z : StateBefore) → y ≡ after_literal lit x → KeepsHeld y z → KeepsHeld x z
kept_literal lit x y z e k = k ∙ ap (λ w. w.context.held) e

-- ---- a claim

pub claim_stopped : (before : List StatementView) (step : Step) (shown : List Lit) (inner : Box Block Global) (x : StateBefore) (n : ℕ) (t : Stop) → step ≡ ClaimStep shown inner → ClaimReady before shown (script_of inner.value) x →
    StopsWithin before (script_of inner.value) x (goal_of shown) (n + 1) t → StopsInStep before step x n t
claim_stopped before step shown inner x n t is ready k rest goal r =
    let same = ap (λ s. step_script s rest) is ∙ step_script-Claim shown inner rest in
    let count = ap size same ∙ claim_size shown (script_of inner.value) rest in (
      subst (λ w. StopsWithin before w x goal n t) (sym same) (claim_stops before shown (script_of inner.value) rest x goal n t ready.over k),
      before_more (n + 1 + size (script_of inner.value)) (n + size (step_script step rest) - size rest) t (omega (arith, count)) (stop_within before (script_of inner.value) x (goal_of shown) (n + 1) t k),
    )

-- ---- a superposition

pub superposed_stopped : (before : List StatementView) (step : Step) (superposition : Superpose) (names : List (List ℕ)) (shown : List Lit) (written certs : List Cert) (inner : Box Block Global) (x : StateBefore) (n : ℕ) (t : Stop) →
    step ≡ SuperposedStep superposition names shown written inner → SuperposedReady before superposition names shown (script_of inner.value) x → Certifies superposition x certs →
    StopsWithin before (script_of inner.value) (after_superposed superposition names x) (goal_of shown) (n + 1) t → StopsInStep before step x n t
superposed_stopped before step superposition names shown written certs inner x n t is ready cs k rest goal r =
    let same = ap (λ s. step_script s rest) is ∙ step_script-Superposed superposition names shown written inner rest in
    let count = ap size same ∙ superposed_size superposition names shown written (script_of inner.value) rest in (
      subst (λ w. StopsWithin before w x goal n t) (sym same)
          (superposed_stops before superposition names shown written certs (script_of inner.value) rest x goal n t ready.fits ready.over cs k),
      before_more (n + 1 + size (script_of inner.value)) (n + size (step_script step rest) - size rest) t (omega (arith, count))
          (stop_within before (script_of inner.value) (after_superposed superposition names x) (goal_of shown) (n + 1) t k),
    )

pub superposed_refused : (before : List StatementView) (step : Step) (superposition : Superpose) (names : List (List ℕ)) (shown : List Lit) (written : List Cert) (inner : Box Block Global) (x after : StateBefore) (n : ℕ) (h : StopReason) (t : Stop) →
    step ≡ SuperposedStep superposition names shown written inner → StepStopsAmong x.context (superposing.needs_of_superposition superposition) h → UnlessNoMemory (after.names ≡ x.names) h → IsStopOrNoMemory h n after.names t → StopsInStep before step x n t
superposed_refused before step superposition names shown written inner x after n h t is k m e rest goal r =
    let here = Superposed superposition names shown written (script_of inner.value) rest in
    let same = ap (λ s. step_script s rest) is ∙ step_script-Superposed superposition names shown written inner rest in
    let count = ap size same ∙ superposed_size superposition names shown written (script_of inner.value) rest in (
      subst (λ w. StopsWithin before w x goal n t) (sym same)
          (stops_first before here x goal n h t (superposed_step_stops before superposition names shown written (script_of inner.value) rest here x goal h k) (same_names h n x after t m e)),
      stop_before h n (n + size (step_script step rest) - size rest) after.names t (omega (arith, count)) e,
    )

-- ---- a split

pub split_parts : (before : List StatementView) (close : Close) (lit : Lit) (first second : Box Block Global) (x : StateBefore) (goal : Goal) → close ≡ CasesClose lit first second → IsReadyFor before (close_script close) x goal →
    SplitReady before lit (script_of first.value) x goal
split_parts before close lit first second x goal is r =
    split_ready before lit (script_of first.value) (script_of second.value) x goal (subst (λ d. IsReadyFor before d x goal) (ap close_script is ∙ close_script-Cases lit first second) r)

-- the second block, where the first is derived
pub split_second_ready : (before : List StatementView) (close : Close) (lit : Lit) (first second : Box Block Global) (derived : Script) (x : StateBefore) (goal : Goal) → close ≡ CasesClose lit first second →
    IsDerivedFrom before (script_of first.value) (after_literal lit x) goal derived → IsReadyFor before (close_script close) x goal → IsReadyFor before (script_of second.value) (after_literal (negation lit) x) goal
split_second_ready before close lit first second derived x goal is d r =
    split_other before lit (script_of first.value) (script_of second.value) derived x goal d (subst (λ w. IsReadyFor before w x goal) (ap close_script is ∙ close_script-Cases lit first second) r)

pub split_size : (close : Close) (lit : Lit) (first second : Box Block Global) → close ≡ CasesClose lit first second → size (close_script close) ≡ 1 + size (script_of first.value) + size (script_of second.value)
split_size close lit first second is =
    ap size (ap close_script is ∙ close_script-Cases lit first second) ∙ size_split lit (script_of first.value) (script_of second.value)

pub split_derived : (before : List StatementView) (close : Close) (lit : Lit) (first second : Box Block Global) (one other : Block) (derived : Close) (x : StateBefore) (goal : Goal) → close ≡ CasesClose lit first second →
    SplitReady before lit (script_of first.value) x goal → IsDerivedFrom before (script_of first.value) (after_literal lit x) goal (script_of one) →
    IsDerivedFrom before (script_of second.value) (after_literal (negation lit) x) goal (script_of other) → close_script derived ≡ Cases lit (script_of one) (script_of other) →
    IsDerivedFrom before (close_script close) x goal (close_script derived)
split_derived before close lit first second one other derived x goal is ready d e a =
    subst (λ w. IsDerivedFrom before w x goal (close_script derived)) (sym (ap close_script is ∙ close_script-Cases lit first second))
    (subst (IsDerivedFrom before (Cases lit (script_of first.value) (script_of second.value)) x goal) (sym a)
    (split_derives before lit (script_of first.value) (script_of second.value) (script_of one) (script_of other) x goal ready.over d e))

pub split_stops_first : (before : List StatementView) (close : Close) (lit : Lit) (first second : Box Block Global) (x : StateBefore) (goal : Goal) (n : ℕ) (t : Stop) → close ≡ CasesClose lit first second →
    SplitReady before lit (script_of first.value) x goal → StopsWithin before (script_of first.value) (after_literal lit x) goal (n + 1) t → StopsWithin before (close_script close) x goal n t
split_stops_first before close lit first second x goal n t is ready k =
    subst (λ w. StopsWithin before w x goal n t) (sym (ap close_script is ∙ close_script-Cases lit first second))
    (split_first before lit (script_of first.value) (script_of second.value) x goal n t ready.over k)

pub split_stops_second : (before : List StatementView) (close : Close) (lit : Lit) (first second : Box Block Global) (one : Block) (x : StateBefore) (goal : Goal) (n next : ℕ) (t : Stop) → close ≡ CasesClose lit first second →
    SplitReady before lit (script_of first.value) x goal → IsDerivedFrom before (script_of first.value) (after_literal lit x) goal (script_of one) → next ≡ n + 1 + size (script_of first.value) →
    StopsWithin before (script_of second.value) (after_literal (negation lit) x) goal next t → StopsWithin before (close_script close) x goal n t
split_stops_second before close lit first second one x goal n next t is ready d count k =
    subst (λ w. StopsWithin before w x goal n t) (sym (ap close_script is ∙ close_script-Cases lit first second))
    (split_second before lit (script_of first.value) (script_of second.value) (script_of one) x goal n next t ready.over d count k)

-- ---- steps alone

pub cite_one : (by : By) (rest : Script) → size (step_script (CiteStep by) rest) ≡ 1 + size rest
unfolding step_script size
cite_one by rest = refl

pub hence_one : (lit : Lit) (cert : Option Cert) (rest : Script) → size (step_script (HenceStep lit cert) rest) ≡ 1 + size rest
unfolding step_script size
hence_one lit cert rest = refl

pub make_one : (construction : Construction) (names : List (List ℕ)) (certs : List Cert) (rest : Script) → size (step_script (MakeStep construction names certs) rest) ≡ 1 + size rest
unfolding step_script size
make_one construction names certs rest = refl

pub apply_one : (theorem : ℕ) (args : List (Option Obj)) (names : List (List ℕ)) (certs : List Cert) (rest : Script) → size (step_script (ApplyStep theorem args names certs) rest) ≡ 1 + size rest
unfolding step_script size
apply_one theorem args names certs rest = refl

pub line_is_one : (step : Step) (rest : Script)
    → ((by : By) × (step ≡ CiteStep by))
    ⊎ (((lit : Lit) × (cert : Option Cert) × (step ≡ HenceStep lit cert))
    ⊎ (((construction : Construction) × (names : List (List ℕ)) × (certs : List Cert) × (step ≡ MakeStep construction names certs))
    ⊎ ((theorem : ℕ) × (args : List (Option Obj)) × (names : List (List ℕ)) × (certs : List Cert) × (step ≡ ApplyStep theorem args names certs))))
    → size (step_script step rest) ≡ 1 + size rest
line_is_one step rest (inl e) = ap (λ s. size (step_script s rest)) e.1 ∙ cite_one e.0 rest
line_is_one step rest (inr (inl e)) = ap (λ s. size (step_script s rest)) e.2 ∙ hence_one e.0 e.1 rest
line_is_one step rest (inr (inr (inl e))) = ap (λ s. size (step_script s rest)) e.3 ∙ make_one e.0 e.1 e.2 rest
line_is_one step rest (inr (inr (inr e))) = ap (λ s. size (step_script s rest)) e.4 ∙ apply_one e.0 e.1 e.2 e.3 rest

pub qed_one : (objects : List Obj) (certs : List Cert) → size (close_script (QedClose objects certs)) ≡ 1
unfolding close_script size
qed_one objects certs = refl

pub contradiction_one : (against : Option Against) → size (close_script (ContradictionClose against)) ≡ 1
unfolding close_script size
contradiction_one against = refl

pub close_is_one : (close : Close) → ((objects : List Obj) × (certs : List Cert) × (close ≡ QedClose objects certs)) ⊎ ((against : Option Against) × (close ≡ ContradictionClose against)) → size (close_script close) ≡ 1
close_is_one close (inl e) = ap (λ k. size (close_script k)) e.2 ∙ qed_one e.0 e.1
close_is_one close (inr e) = ap (λ k. size (close_script k)) e.1 ∙ contradiction_one e.0
