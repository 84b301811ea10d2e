-- A claim and a superposition, with the blocks inside, whatever comes after them.
use Rattle.std.proofs.Common.{◌≡◌, ℕ, ◌+◌, ◌-◌, ◌<◌, ◌^◌, List, refl, sym, ap, ◌∙◌, subst, true, Result, Ok, Err, arith, Box, Global}
use Rattle.std.specs.Prelude.{IfOk, IfErr, OnOk}
use Rattle.e_literal.specs.declared.literal.Lit.{Lit}
use Rattle.e_literal.specs.Facts.{with_facts}
use Rattle.e_literal.specs.Use.{StatementView}
use Rattle.e_clause.specs.declared.cert.Cert.{Cert}
use Rattle.e_clause.specs.LimitedFacts.{are_limited_facts}
use Rattle.e_construct.specs.declared.superpose.Superpose.{Superpose}
use Rattle.e_construct.specs.Superposing as superposing
use Rattle.e_deriv.specs.declared.block.Block.{Block}
use Rattle.e_deriv.specs.declared.block.Step.{Step}
use Rattle.e_deriv.specs.declared.block.Step.TheVariants.{Claim as ClaimStep, Superposed as SuperposedStep}
use Rattle.e_deriv.specs.declared.names.Names.{Names}
use Rattle.e_deriv.specs.declared.stop.Stop.{Stop}
use Rattle.e_deriv.specs.Script.{Script, Claim, Superposed, script_of, step_script, size}
use Rattle.e_deriv.specs.Goal.{goal_of}
use Rattle.e_deriv.proofs.Scripts.{step_script-Claim, step_script-Superposed}
use Rattle.e_prove.specs.declared.stop_reason.StopReason.{StopReason}
use Rattle.e_prove.specs.declared.state_before.StateBefore.{StateBefore}
use Rattle.e_prove.specs.inner.NextStates.{after_block, after_superposed, entered_at, IsOutsideWith}
use Rattle.e_prove.specs.inner.StopsOfSteps.{StepStopsAmong, UnlessNoMemory, IsStopOrNoMemory}
use Rattle.e_prove.specs.inner.PassedSteps.{IsReadyFor, AreReadyBeforeSome, IsDerivedFrom, KeepsHeld, StopsWithin, IsPassed, StopsInSteps}
use Rattle.e_prove.specs.Stops.{IsStopBefore}
use Rattle.e_prove.proofs.HeldStates.{after_is}
use Rattle.e_prove.proofs.PassedSteps.{passed_as, stops_first, same_names}
use Rattle.e_prove.proofs.ReadySteps.{block_facts, claim_few, superposed_few}
use Rattle.e_prove.proofs.StopsInLists.{stop_within, before_more, stop_before}
use Rattle.e_prove.proofs.InnerBlocks.{ClaimReady, claim_ready, claim_rest, claim_size, claim_stops, passed_claim, SuperposedReady, Certifies, superposed_ready, superposed_rest, superposed_size, superposed_stops, passed_superposed, superposed_step_stops}

-- ---- steps as the code has them

pub ready_as : (before : List StatementView) (f g : Script → Script) (x : StateBefore) (n : ℕ) → ((d : Script) → g d ≡ f d) → AreReadyBeforeSome before g x n → AreReadyBeforeSome before f x n
ready_as before f g x n e r = record {
  rest = r.rest;
  goal = r.goal;
  ready = subst (λ d. IsReadyFor before d x r.goal) (e r.rest) r.ready;
  few = subst (λ d. n + size d < 2 ^ 32) (e r.rest) r.few;
}

same_script : (s : Step) (rest : Script) → step_script s rest ≡ step_script s rest
same_script s rest = refl

pub all_passed_as : (before : List StatementView) (f g : Script → Script) (x y : StateBefore) (n m : ℕ) (r : Result Step Stop) → ((d : Script) → g d ≡ f d) → IfOk r (λ s. IsPassed before f x n (step_script s) y m)
    → IfOk r (λ s. IsPassed before g x n (step_script s) y m)
all_passed_as before f g x y n m (Ok s) e a = passed_as before f (step_script s) g (step_script s) x y n m (λ d. sym (e d)) (same_script s) a
all_passed_as before f g x y n m (Err t) e a = tt

pub all_stopped_as : (before : List StatementView) (f g : Script → Script) (x : StateBefore) (n : ℕ) (r : Result Step Stop) → ((d : Script) → g d ≡ f d) → IfErr r (StopsInSteps before f x n) → IfErr r (StopsInSteps before g x n)
all_stopped_as before f g x n (Ok p) e h = tt
all_stopped_as before f g x n (Err t) e h = λ rest goal r.
    let k = h rest goal (subst (λ d. IsReadyFor before d x goal) (e rest) r) in
    (subst (λ w. StopsWithin before w x goal n t) (sym (e rest)) k.0, subst (λ w. IsStopBefore (n + size w - size rest) t) (sym (e rest)) k.1)

-- what holds whatever the written certificates are holds with these
pub ok_with : (r : Result Step Stop) (P : Step → List Cert → Type 0) (certs : List Cert) → IfOk r (λ p. (cs : List Cert) → P p cs) → IfOk r (λ p. P p certs)
ok_with (Ok p) P certs h = h certs
ok_with (Err t) P certs h = tt

pub err_with : (r : Result Step Stop) (P : Stop → List Cert → Type 0) (certs : List Cert) → IfErr r (λ t. (cs : List Cert) → P t cs) → IfErr r (λ t. P t certs)
err_with (Ok p) P certs h = tt
err_with (Err t) P certs h = h certs

-- ---- a claim

pub claim_is : (s : Step) (shown seen : List Lit) (inner : Box Block Global) (block : Block) → s ≡ ClaimStep shown inner → seen ≡ shown → block ≡ inner.value → (rest : Script) → step_script s rest ≡ Claim seen (script_of block) rest
claim_is s shown seen inner block is same at rest =
    ap (λ t. step_script t rest) is ∙ step_script-Claim shown inner rest ∙ ap (λ ls. Claim ls (script_of inner.value) rest) (sym same) ∙ ap (λ b. Claim seen (script_of b) rest) (sym at)

pub claim_begins : (before : List StatementView) (shown : List Lit) (inner : Script) (x : StateBefore) (n : ℕ) → AreReadyBeforeSome before (Claim shown inner) x n → ClaimReady before shown inner x
claim_begins before shown inner x n r = claim_ready before shown inner r.rest x r.goal r.ready

pub claim_numbers : (before : List StatementView) (shown : List Lit) (inner : Script) (x : StateBefore) (n : ℕ) → AreReadyBeforeSome before (Claim shown inner) x n → n + 1 + size inner < 2 ^ 32
claim_numbers before shown inner x n r = claim_few shown inner r.rest n r.few

pub claim_ends : (before : List StatementView) (shown : List Lit) (inner derived : Script) (x : StateBefore) (n : ℕ) → IsDerivedFrom before inner x (goal_of shown) derived → AreReadyBeforeSome before (Claim shown inner) x n
    → are_limited_facts x.context.scope (with_facts x.context.facts shown) ≡ true
claim_ends before shown inner derived x n d r = block_facts before r.rest (after_block shown x) r.goal (claim_rest before shown inner derived r.rest x r.goal d r.ready)

pub claim_is_passed : (before : List StatementView) (shown : List Lit) (inner : Script) (x z after : StateBefore) (n m : ℕ) (o : Names) (proved : Block) (r : Result Step Stop) → ClaimReady before shown inner x
    → IsDerivedFrom before inner x (goal_of shown) (script_of proved) → m ≡ n + 1 + size inner → o ≡ x.names → KeepsHeld (entered_at x) z → IfOk r (λ d. (rest : Script) → step_script d rest ≡ Claim shown (script_of proved) rest)
    → OnOk r (IsOutsideWith o shown z after) → IfOk r (λ d. IsPassed before (Claim shown inner) x n (step_script d) after m)
claim_is_passed before shown inner x z after n m o proved (Err t) ready d count e k a c = tt
claim_is_passed before shown inner x z after n m o proved (Ok p) ready d count e k a c =
    let D = script_of proved in
    let base = passed_claim before shown inner D x n m ready.over d count in
    let here = subst (λ w. IsPassed before (Claim shown inner) x n (Claim shown D) w m) (sym (after_is o x z after shown shown e k refl c)) base in
    passed_as before (Claim shown inner) (Claim shown D) (Claim shown inner) (step_script p) x after n m (λ w. refl) (λ w. sym (a w)) here

pub claim_is_stopped : (before : List StatementView) (shown : List Lit) (inner : Script) (x : StateBefore) (n : ℕ) (t : Stop) → ClaimReady before shown inner x → StopsWithin before inner x (goal_of shown) (n + 1) t → StopsInSteps before (Claim shown inner) x n t
claim_is_stopped before shown inner x n t ready k rest goal r =
    let count = claim_size shown inner rest in (
      claim_stops before shown inner rest x goal n t ready.over k,
      before_more (n + 1 + size inner) (n + size (Claim shown inner rest) - size rest) t (omega (arith, count)) (stop_within before inner x (goal_of shown) (n + 1) t k),
    )

-- ---- a superposition

pub superposed_is : (s : Step) (superposition : Superpose) (names copies : List (List ℕ)) (shown seen : List Lit) (certs : List Cert) (inner : Box Block Global) (block : Block) → s ≡ SuperposedStep superposition names shown certs inner
    → copies ≡ names → seen ≡ shown → block ≡ inner.value → (rest : Script) → step_script s rest ≡ Superposed superposition copies seen certs (script_of block) rest
superposed_is s superposition names copies shown seen certs inner block is given same at rest =
    ap (λ t. step_script t rest) is ∙ step_script-Superposed superposition names shown certs inner rest ∙ ap (λ ns. Superposed superposition ns shown certs (script_of inner.value) rest) (sym given)
    ∙ ap (λ ls. Superposed superposition copies ls certs (script_of inner.value) rest) (sym same) ∙ ap (λ b. Superposed superposition copies seen certs (script_of b) rest) (sym at)

pub superposed_begins : (before : List StatementView) (superposition : Superpose) (names : List (List ℕ)) (shown : List Lit) (certs : List Cert) (inner : Script) (x : StateBefore) (n : ℕ) → AreReadyBeforeSome before (Superposed superposition names shown certs inner) x n
    → SuperposedReady before superposition names shown inner x
superposed_begins before superposition names shown certs inner x n r = superposed_ready before superposition names shown certs inner r.rest x r.goal r.ready

pub superposed_numbers : (before : List StatementView) (superposition : Superpose) (names : List (List ℕ)) (shown : List Lit) (certs : List Cert) (inner : Script) (x : StateBefore) (n : ℕ) → AreReadyBeforeSome before (Superposed superposition names shown certs inner) x n
    → n + 1 + size inner < 2 ^ 32
superposed_numbers before superposition names shown certs inner x n r = superposed_few superposition names shown certs inner r.rest n r.few

pub superposed_ends : (before : List StatementView) (superposition : Superpose) (names : List (List ℕ)) (shown : List Lit) (certs : List Cert) (inner derived : Script) (x : StateBefore) (n : ℕ)
    → IsDerivedFrom before inner (after_superposed superposition names x) (goal_of shown) derived → AreReadyBeforeSome before (Superposed superposition names shown certs inner) x n → are_limited_facts x.context.scope (with_facts x.context.facts shown) ≡ true
superposed_ends before superposition names shown certs inner derived x n d r =
    block_facts before r.rest (after_block shown x) r.goal (superposed_rest before superposition names shown certs inner derived r.rest x r.goal d r.ready)

pub superposed_is_passed : (before : List StatementView) (superposition : Superpose) (names : List (List ℕ)) (shown : List Lit) (certs : List Cert) (inner : Script) (x z after : StateBefore) (n m : ℕ) (o : Names) (proved : Block) (r : Result Step Stop)
    → SuperposedReady before superposition names shown inner x → Certifies superposition x certs → IsDerivedFrom before inner (after_superposed superposition names x) (goal_of shown) (script_of proved) → m ≡ n + 1 + size inner → o ≡ x.names → KeepsHeld (entered_at x) z
    → IfOk r (λ d. (rest : Script) → step_script d rest ≡ Superposed superposition names shown certs (script_of proved) rest) → OnOk r (IsOutsideWith o shown z after)
    → IfOk r (λ d. (written : List Cert) → IsPassed before (Superposed superposition names shown written inner) x n (step_script d) after m)
superposed_is_passed before superposition names shown certs inner x z after n m o proved (Err t) ready cs d count e k a c = tt
superposed_is_passed before superposition names shown certs inner x z after n m o proved (Ok p) ready cs d count e k a c = λ written.
    let D = script_of proved in
    let base = passed_superposed before superposition names shown written certs inner D x n m ready.fits ready.over cs d count in
    let here = subst (λ w. IsPassed before (Superposed superposition names shown written inner) x n (Superposed superposition names shown certs D) w m) (sym (after_is o x z after shown shown e k refl c)) base in
    passed_as before (Superposed superposition names shown written inner) (Superposed superposition names shown certs D) (Superposed superposition names shown written inner) (step_script p) x after n m (λ w. refl) (λ w. sym (a w)) here

pub superposed_is_stopped : (before : List StatementView) (superposition : Superpose) (names : List (List ℕ)) (shown : List Lit) (certs : List Cert) (inner : Script) (x : StateBefore) (n : ℕ) (t : Stop) → SuperposedReady before superposition names shown inner x → Certifies superposition x certs
    → StopsWithin before inner (after_superposed superposition names x) (goal_of shown) (n + 1) t → (written : List Cert) → StopsInSteps before (Superposed superposition names shown written inner) x n t
superposed_is_stopped before superposition names shown certs inner x n t ready cs k written rest goal r =
    let count = superposed_size superposition names shown written inner rest in (
      superposed_stops before superposition names shown written certs inner rest x goal n t ready.fits ready.over cs k,
      before_more (n + 1 + size inner) (n + size (Superposed superposition names shown written inner rest) - size rest) t (omega (arith, count)) (stop_within before inner (after_superposed superposition names x) (goal_of shown) (n + 1) t k),
    )

pub superposed_is_refused : (before : List StatementView) (superposition : Superpose) (names : List (List ℕ)) (shown : List Lit) (inner : Script) (x after : StateBefore) (n : ℕ) (h : StopReason) (t : Stop) → StepStopsAmong x.context (superposing.needs_of_superposition superposition) h
    → UnlessNoMemory (after.names ≡ x.names) h → IsStopOrNoMemory h n after.names t → (written : List Cert) → StopsInSteps before (Superposed superposition names shown written inner) x n t
superposed_is_refused before superposition names shown inner x after n h t k m e written rest goal r =
    let here = Superposed superposition names shown written inner rest in
    let count = superposed_size superposition names shown written inner rest in (
      stops_first before here x goal n h t (superposed_step_stops before superposition names shown written inner rest here x goal h k) (same_names h n x after t m e),
      stop_before h n (n + size here - size rest) after.names t (omega (arith, count)) e,
    )
