-- Steps and closes as the code has them, with the blocks inside.
use Rattle.std.proofs.Common.{◌≡◌, ℕ, zero, suc, ◌+◌, ◌≤◌, ◌<◌, ◌^◌, List, [], ◌∷◌, length, drop, get_or, refl, sym, ap, ◌∙◌, subst, arith, Bool, true, false, Option, Result, Ok, Err, Box, Global}
use Rattle.std.specs.Prelude.{IsTrue, IsFalse, IfOk, IfErr}
use Rattle.std.specs.List.{list_all}
use Rattle.std.specs.Option.{option_map_or}
use Rattle.e_literal.specs.declared.object.Obj.{Obj}
use Rattle.e_literal.specs.declared.literal.Lit.{Lit}
use Rattle.e_literal.specs.Literal.{negation, all_in_scope}
use Rattle.e_literal.specs.Facts.{with_fact, with_facts}
use Rattle.e_literal.specs.Use.{StatementView}
use Rattle.e_literal.specs.WellFormed.{is_well_formed}
use Rattle.e_clause.specs.declared.cert.Against.{Against}
use Rattle.e_clause.specs.declared.cert.By.{By}
use Rattle.e_clause.specs.declared.cert.Cert.{Cert}
use Rattle.e_construct.specs.declared.construction.Construction.{Construction}
use Rattle.e_construct.specs.declared.superpose.Superpose.{Superpose}
use Rattle.e_construct.specs.Superposing as superposing
use Rattle.e_deriv.specs.declared.block.Block.{Block}
use Rattle.e_deriv.specs.declared.block.Step.{Step}
use Rattle.e_deriv.specs.declared.block.Step.TheVariants.{Cite as CiteStep, Hence as HenceStep, Make as MakeStep, Apply as ApplyStep, Claim as ClaimStep, Superposed as SuperposedStep}
use Rattle.e_deriv.specs.declared.block.Close.{Close}
use Rattle.e_deriv.specs.declared.block.Close.TheVariants.{Qed as QedClose, Contradiction as ContradictionClose, Cases as CasesClose}
use Rattle.e_deriv.specs.Script.{Script, Cite, Hence, Make, Apply, Claim, Superposed, Qed, Contradiction, Cases, script_of, step_script, steps_script, close_script}
use Rattle.e_deriv.specs.Goal.{Goal, goal_of}
use Rattle.e_deriv.specs.Steps.{are_over}
use Rattle.e_deriv.specs.Certified.{is_certified}
use Rattle.e_deriv.specs.Fitting.{is_small}
use Rattle.e_deriv.proofs.Scripts.{steps_at, step_script-Cite, step_script-Hence, step_script-Make, step_script-Apply, step_script-Claim, step_script-Superposed, close_script-Qed, close_script-Contradiction, close_script-Cases}
use Rattle.e_deriv.proofs.Stops.{lines_length}
use Rattle.e_verify.specs.declared.reject.Reject.{Reject}
use Rattle.e_verify.specs.declared.reject.Reject.TheVariants.{Bad}
use Rattle.e_verify.specs.declared.step_state.StepState.{StepState}
use Rattle.e_verify.specs.declared.step_state.Checkpoint.{Checkpoint}
use Rattle.e_verify.specs.StepStates.{state_with_facts, state_after_superposed, checkpoint_of_state, state_restored}
use Rattle.e_clause.specs.Written.{is_writable_cert, is_writable_against}
use Rattle.e_verify.specs.Checking.{step_in_state, verdict_at, RejectIs, IsCheckable, IsCheckableStep, AreCheckableBeforeSome, KeepsFirstFacts, AreVerified, RejectsInSteps, RejectsInStep}
use Rattle.e_verify.proofs.checking.FirstLines.{some_lines, qed_lines, contradiction_lines}
use Rattle.e_deriv.proofs.Keeping.{stay_on, stay_joined, stay_all}
use Rattle.e_verify.proofs.checking.CertifiedLines.{superposed_fits}
use Rattle.e_verify.proofs.checking.PassedLines.{close_certified, close_rejected, reject_as, scope_small, cite_written, hence_written, make_written, apply_written, superposed_written, qed_written, contradiction_written, claim_inner, passed_claim, claim_rejected, claim_bad, superposed_inner, IsHead, passed_superposed, superposed_rejected, bad_line, cases_first, cases_second, cases_same, cases_rejected, cases_bad}

-- ---- the steps of a block

pub step_ready : (before : List StatementView) (items seen : List Step) (close : Script) (i : ℕ) (s : Step) (y : StepState) (goal : Goal) (n : ℕ) → seen ≡ items → i < length seen → s ≡ get_or seen i s
    → IsCheckable before (steps_script (drop i items) close) y goal n → IsCheckableStep before s y n
step_ready before items seen close i s y goal n same lt is r =
    record { rest = steps_script (drop (i + 1) items) close; goal = goal; ready = subst (λ d. IsCheckable before d y goal n) (steps_at items seen close i s same lt is) r }

pub step_rejects : (before : List StatementView) (items seen : List Step) (close : Script) (i : ℕ) (s : Step) (y : StepState) (goal : Goal) (n : ℕ) (v : Result ℕ ℕ) (e : Reject) → seen ≡ items → i < length seen → s ≡ get_or seen i s
    → verdict_at before (steps_script (drop i items) close) y goal n ≡ v → RejectsInStep before s y n e → RejectIs v e
step_rejects before items seen close i s y goal n v e same lt is h k =
    let rest = steps_script (drop (i + 1) items) close in
    reject_as v (verdict_at before (step_script s rest) y goal n) e (sym h ∙ ap (λ d. verdict_at before d y goal n) (steps_at items seen close i s same lt is)) (k rest goal)

pub step_same : (before : List StatementView) (items seen : List Step) (close : Script) (i : ℕ) (s : Step) (y z : StepState) (goal : Goal) (n m : ℕ) (v : Result ℕ ℕ) → seen ≡ items → i < length seen → s ≡ get_or seen i s
    → verdict_at before (steps_script (drop i items) close) y goal n ≡ v → AreVerified before (step_script s) y n z m → verdict_at before (steps_script (drop (i + 1) items) close) z goal m ≡ v
step_same before items seen close i s y z goal n m v same lt is h p =
    let rest = steps_script (drop (i + 1) items) close in
    sym (p.same rest goal) ∙ sym (ap (λ d. verdict_at before d y goal n) (steps_at items seen close i s same lt is)) ∙ h

pub step_next : (before : List StatementView) (items seen : List Step) (close : Script) (i : ℕ) (s : Step) (y z : StepState) (goal : Goal) (n m : ℕ) → seen ≡ items → i < length seen → s ≡ get_or seen i s
    → IsCheckable before (steps_script (drop i items) close) y goal n → AreVerified before (step_script s) y n z m → IsCheckable before (steps_script (drop (i + 1) items) close) z goal m
step_next before items seen close i s y z goal n m same lt is r p =
    p.ready (steps_script (drop (i + 1) items) close) goal (subst (λ d. IsCheckable before d y goal n) (steps_at items seen close i s same lt is) r)

pub none_left : (xs : List Step) (i : ℕ) → length xs ≤ i → drop i xs ≡ []
none_left [] zero h = refl
none_left [] (suc i) h = refl
none_left (x ∷ xs) zero h = absurd (omega (arith, h))
none_left (x ∷ xs) (suc i) h = none_left xs i (omega (arith, h))

pub steps_end : (items seen : List Step) (close : Script) (i : ℕ) → seen ≡ items → length seen ≤ i → steps_script (drop i items) close ≡ close
steps_end items seen close i same le = ap (λ xs. steps_script xs close) (none_left items i (subst (λ xs. length xs ≤ i) same le))

pub kept_on : (x y z : StepState) → KeepsFirstFacts x y → KeepsFirstFacts y z → KeepsFirstFacts x z
kept_on x y z h k = stay_on x.facts y.facts z.facts h k

pub ok_as : (r : Result ℕ Reject) (v w : Result ℕ ℕ) → v ≡ w → IfOk r (λ n. w ≡ Ok n) → IfOk r (λ n. v ≡ Ok n)
ok_as (Ok n) v w e h = e ∙ h
ok_as (Err k) v w e h = tt

pub err_as : (r : Result ℕ Reject) (v w : Result ℕ ℕ) → v ≡ w → IfErr r (RejectIs w) → IfErr r (RejectIs v)
err_as (Ok n) v w e h = tt
err_as (Err k) v w e h = reject_as v w k e h

-- ---- numbers

pub few_one : (before : List StatementView) (d : Script) (x : StepState) (goal : Goal) (n : ℕ) → IsCheckable before d x goal n → n + 1 < 2 ^ 32
few_one before d x goal n r = let l = some_lines before d x goal in omega (arith, r.few, sym (ap length l.1) ∙ lines_length before d d x.scope x.facts goal)

pub few_step : (before : List StatementView) (s : Step) (x : StepState) (n : ℕ) → IsCheckableStep before s x n → n + 1 < 2 ^ 32
few_step before s x n r = few_one before (step_script s r.rest) x r.goal n r.ready

pub small_step : (before : List StatementView) (s : Step) (x : StepState) (n : ℕ) → IsCheckableStep before s x n → is_small x.scope ≡ true
small_step before s x n r = scope_small before (step_script s r.rest) x r.goal n r.ready

-- ---- a step that is one line, as the code has it

pub cite_is : (s : Step) (by : By) → s ≡ CiteStep by → (rest : Script) → step_script s rest ≡ Cite by rest
cite_is s by is rest = ap (λ t. step_script t rest) is ∙ step_script-Cite by rest

pub hence_is : (s : Step) (lit : Lit) (cert : Option Cert) → s ≡ HenceStep lit cert → (rest : Script) → step_script s rest ≡ Hence lit cert rest
hence_is s lit cert is rest = ap (λ t. step_script t rest) is ∙ step_script-Hence lit cert rest

pub make_is : (s : Step) (construction : Construction) (names : List (List ℕ)) (certs : List Cert) → s ≡ MakeStep construction names certs → (rest : Script) → step_script s rest ≡ Make construction names certs rest
make_is s construction names certs is rest = ap (λ t. step_script t rest) is ∙ step_script-Make construction names certs rest

pub apply_is : (s : Step) (theorem : ℕ) (args : List (Option Obj)) (names : List (List ℕ)) (certs : List Cert) → s ≡ ApplyStep theorem args names certs → (rest : Script) → step_script s rest ≡ Apply theorem args names certs rest
apply_is s theorem args names certs is rest = ap (λ t. step_script t rest) is ∙ step_script-Apply theorem args names certs rest

pub formed_step : (before : List StatementView) (s : Step) (x : StepState) (n : ℕ) → IsCheckableStep before s x n → list_all is_well_formed x.facts ≡ true
formed_step before s x n r = r.ready.facts

pub cite_parts : (before : List StatementView) (s : Step) (by : By) (x : StepState) (n : ℕ) → s ≡ CiteStep by → IsCheckableStep before s x n → is_well_formed by.lit ≡ true
cite_parts before s by x n is r = (cite_written by r.rest (subst (λ d. IsCheckable before d x r.goal n) (cite_is s by is r.rest) r.ready).written).0

pub hence_parts : (before : List StatementView) (s : Step) (lit : Lit) (cert : Option Cert) (x : StepState) (n : ℕ) → s ≡ HenceStep lit cert → IsCheckableStep before s x n → (is_well_formed lit ≡ true) × (option_map_or is_writable_cert cert true ≡ true)
hence_parts before s lit cert x n is r =
    let w = hence_written lit cert r.rest (subst (λ d. IsCheckable before d x r.goal n) (hence_is s lit cert is r.rest) r.ready).written in (w.0, w.1)

pub make_parts : (before : List StatementView) (s : Step) (construction : Construction) (names : List (List ℕ)) (certs seen : List Cert) (x : StepState) (n : ℕ) → s ≡ MakeStep construction names certs → seen ≡ certs → IsCheckableStep before s x n → list_all is_writable_cert seen ≡ true
make_parts before s construction names certs seen x n is same r =
    ap (list_all is_writable_cert) same ∙ (make_written construction names certs r.rest (subst (λ d. IsCheckable before d x r.goal n) (make_is s construction names certs is r.rest) r.ready).written).0

pub apply_parts : (before : List StatementView) (s : Step) (theorem : ℕ) (args : List (Option Obj)) (names : List (List ℕ)) (certs seen : List Cert) (x : StepState) (n : ℕ) → s ≡ ApplyStep theorem args names certs → seen ≡ certs → IsCheckableStep before s x n
    → list_all is_writable_cert seen ≡ true
apply_parts before s theorem args names certs seen x n is same r =
    ap (list_all is_writable_cert) same ∙ (apply_written theorem args names certs r.rest (subst (λ d. IsCheckable before d x r.goal n) (apply_is s theorem args names certs is r.rest) r.ready).written).0

-- ---- blocks that are left

pub restored_is : (o : Checkpoint) (x z y : StepState) → o ≡ checkpoint_of_state x → KeepsFirstFacts x z → y ≡ state_restored o z → y ≡ x
restored_is o x z y e k is = is ∙ ap (λ m. state_restored m z) e ∙ ap (λ fs. state_with_facts fs x) k

-- ---- lines as the code has them

passed_as : (before : List StatementView) (f g : Script → Script) (x y : StepState) (n m : ℕ) → ((d : Script) → g d ≡ f d) → AreVerified before f x n y m → AreVerified before g x n y m
passed_as before f g x y n m e p =
    record {
      ready = λ rest goal r. p.ready rest goal (subst (λ d. IsCheckable before d x goal n) (e rest) r);
      same = λ rest goal. ap (λ d. verdict_at before d x goal n) (e rest) ∙ p.same rest goal;
      kept = p.kept;
    }

pub ready_as : (before : List StatementView) (f g : Script → Script) (x : StepState) (n : ℕ) → ((d : Script) → g d ≡ f d) → AreCheckableBeforeSome before g x n → AreCheckableBeforeSome before f x n
ready_as before f g x n e r = record { rest = r.rest; goal = r.goal; ready = subst (λ d. IsCheckable before d x r.goal n) (e r.rest) r.ready }

pub all_passed_as : (before : List StatementView) (f g : Script → Script) (x y : StepState) (n : ℕ) (r : Result ℕ Reject) → ((d : Script) → g d ≡ f d) → IfOk r (λ m. AreVerified before f x n y m) → IfOk r (λ m. AreVerified before g x n y m)
all_passed_as before f g x y n (Ok m) e p = passed_as before f g x y n m e p
all_passed_as before f g x y n (Err k) e p = tt

pub all_rejected_as : (before : List StatementView) (f g : Script → Script) (x : StepState) (n : ℕ) (r : Result ℕ Reject) → ((d : Script) → g d ≡ f d) → IfErr r (RejectsInSteps before f x n) → IfErr r (RejectsInSteps before g x n)
all_rejected_as before f g x n (Ok m) e h = tt
all_rejected_as before f g x n (Err k) e h = λ rest goal. reject_as (verdict_at before (g rest) x goal n) (verdict_at before (f rest) x goal n) k (ap (λ d. verdict_at before d x goal n) (e rest)) (h rest goal)

-- what holds whatever the names are holds with these
pub ok_with : {N : Type 0} (r : Result ℕ Reject) (P : ℕ → N → Type 0) (names : N) → IfOk r (λ m. (ns : N) → P m ns) → IfOk r (λ m. P m names)
ok_with (Ok m) P names h = h names
ok_with (Err k) P names h = tt

pub err_with : {N : Type 0} (r : Result ℕ Reject) (P : Reject → N → Type 0) (names : N) → IfErr r (λ e. (ns : N) → P e ns) → IfErr r (λ e. P e names)
err_with (Ok m) P names h = tt
err_with (Err k) P names h = h names

pub few_lines : (before : List StatementView) (whole : Script → Script) (x : StepState) (n : ℕ) → AreCheckableBeforeSome before whole x n → n + 1 < 2 ^ 32
few_lines before whole x n r = few_one before (whole r.rest) x r.goal n r.ready

pub formed_lines : (before : List StatementView) (whole : Script → Script) (x : StepState) (n : ℕ) → AreCheckableBeforeSome before whole x n → list_all is_well_formed x.facts ≡ true
formed_lines before whole x n r = r.ready.facts

pub small_lines : (before : List StatementView) (whole : Script → Script) (x : StepState) (n : ℕ) → AreCheckableBeforeSome before whole x n → is_small x.scope ≡ true
small_lines before whole x n r = scope_small before (whole r.rest) x r.goal n r.ready

-- ---- a claim

pub claim_is : (s : Step) (shown seen : List Lit) (inner : Box Block Global) (block : Block) → s ≡ ClaimStep shown inner → seen ≡ shown → block ≡ inner.value → (rest : Script) → step_script s rest ≡ Claim seen (script_of block) rest
claim_is s shown seen inner block is same at rest =
    ap (λ t. step_script t rest) is ∙ step_script-Claim shown inner rest ∙ ap (λ ls. Claim ls (script_of inner.value) rest) (sym same) ∙ ap (λ b. Claim seen (script_of b) rest) (sym at)

pub claim_ready : (before : List StatementView) (shown : List Lit) (inner : Script) (x : StepState) (n : ℕ) → AreCheckableBeforeSome before (Claim shown inner) x n → IsCheckable before inner x (goal_of shown) (n + 1)
claim_ready before shown inner x n r = claim_inner before shown inner r.rest x r.goal n r.ready

pub claim_fails : (before : List StatementView) (shown : List Lit) (inner : Script) (x : StepState) (n : ℕ) → are_over x.scope shown ≡ false → RejectsInSteps before (Claim shown inner) x n (Bad n)
claim_fails before shown inner x n h rest goal = claim_bad before shown inner rest x goal n h

pub claim_stops : (before : List StatementView) (shown : List Lit) (inner : Script) (x : StepState) (n : ℕ) (e : Reject) → are_over x.scope shown ≡ true → RejectIs (verdict_at before inner x (goal_of shown) (n + 1)) e
    → RejectsInSteps before (Claim shown inner) x n e
claim_stops before shown inner x n e h k rest goal = claim_rejected before shown inner rest x goal n e h k

pub claim_done : (before : List StatementView) (shown : List Lit) (inner : Script) (x z y after : StepState) (o : Checkpoint) (n m : ℕ) → are_over x.scope shown ≡ true → verdict_at before inner x (goal_of shown) (n + 1) ≡ Ok m
    → o ≡ checkpoint_of_state x → KeepsFirstFacts x z → y ≡ state_restored o z → after ≡ state_with_facts (with_facts y.facts shown) y → AreVerified before (Claim shown inner) x n after m
claim_done before shown inner x z y after o n m h v e k left end =
    let p = passed_claim before shown inner x n m h v in
    let back = end ∙ ap (λ w. state_with_facts (with_facts w.facts shown) w) (restored_is o x z y e k left) in
    subst (λ w. AreVerified before (Claim shown inner) x n w m) (sym back) p

-- ---- a superposition

pub superposed_is : (s : Step) (superposition : Superpose) (names : List (List ℕ)) (shown over : List Lit) (certs seen : List Cert) (inner : Box Block Global) (block : Block) → s ≡ SuperposedStep superposition names shown certs inner
    → over ≡ shown → seen ≡ certs → block ≡ inner.value → (rest : Script) → step_script s rest ≡ Superposed superposition names over seen (script_of block) rest
superposed_is s superposition names shown over certs seen inner block is like same at rest =
    ap (λ t. step_script t rest) is ∙ step_script-Superposed superposition names shown certs inner rest ∙ ap (λ ls. Superposed superposition names ls certs (script_of inner.value) rest) (sym like)
    ∙ ap (λ cs. Superposed superposition names over cs (script_of inner.value) rest) (sym same) ∙ ap (λ b. Superposed superposition names over seen (script_of b) rest) (sym at)

pub superposed_parts : (before : List StatementView) (superposition : Superpose) (names : List (List ℕ)) (shown : List Lit) (certs : List Cert) (inner : Script) (x : StepState) (n : ℕ) → AreCheckableBeforeSome before (Superposed superposition names shown certs inner) x n
    → list_all is_writable_cert certs ≡ true
superposed_parts before superposition names shown certs inner x n r = (superposed_written superposition names shown certs inner r.rest r.ready.written).1

pub superposed_ready : (before : List StatementView) (superposition : Superpose) (names : List (List ℕ)) (shown : List Lit) (certs : List Cert) (inner : Script) (x z : StepState) (n : ℕ) → z ≡ state_after_superposed superposition x → superposing.fits_superposition superposition x.scope ≡ true
    → AreCheckableBeforeSome before (Superposed superposition names shown certs inner) x n → IsCheckable before inner z (goal_of shown) (n + 1)
superposed_ready before superposition names shown certs inner x z n begun fit r =
    subst (λ w. IsCheckable before inner w (goal_of shown) (n + 1)) (sym begun) (superposed_inner before superposition names shown certs inner r.rest x r.goal n fit r.ready)

-- what the code tests before the block of a superposition
abbrev pub IsTested : List StatementView → Superpose → List Lit → List Cert → StepState → Bool → Type 0
IsTested before superposition shown certs x b = (names : List (List ℕ)) (inner rest : Script) (goal : Goal) → b ≡ is_certified before (step_in_state (Superposed superposition names shown certs inner rest) x goal)

head_as : (before : List StatementView) (superposition : Superpose) (names : List (List ℕ)) (shown : List Lit) (certs : List Cert) (x : StepState) (b c : Bool) → b ≡ c → IsTested before superposition shown certs x b → IsHead before superposition names shown certs x c
head_as before superposition names shown certs x b c is h inner rest goal = sym is ∙ h names inner rest goal

-- what is tested and certified fits
pub tested_fits : (before : List StatementView) (superposition : Superpose) (shown : List Lit) (certs : List Cert) (x : StepState) (b : Bool) → b ≡ true → IsTested before superposition shown certs x b → superposing.fits_superposition superposition x.scope ≡ true
tested_fits before superposition shown certs x b is h =
    superposed_fits before superposition [] shown certs (Qed [] []) (Qed [] []) x (goal_of []) (sym is ∙ h [] (Qed [] []) (Qed [] []) (goal_of []))

pub superposed_fails : (before : List StatementView) (superposition : Superpose) (shown : List Lit) (certs : List Cert) (inner : Script) (x : StepState) (n : ℕ) (b : Bool) → b ≡ false → IsTested before superposition shown certs x b
    → (names : List (List ℕ)) → RejectsInSteps before (Superposed superposition names shown certs inner) x n (Bad n)
superposed_fails before superposition shown certs inner x n b f h names rest goal =
    bad_line before (Superposed superposition names shown certs inner rest) x goal n (sym (head_as before superposition names shown certs x b false f h inner rest goal))

pub superposed_stops : (before : List StatementView) (superposition : Superpose) (shown : List Lit) (certs : List Cert) (inner : Script) (x z : StepState) (n : ℕ) (b : Bool) (e : Reject) → z ≡ state_after_superposed superposition x → b ≡ true → IsTested before superposition shown certs x b
    → RejectIs (verdict_at before inner z (goal_of shown) (n + 1)) e → (names : List (List ℕ)) → RejectsInSteps before (Superposed superposition names shown certs inner) x n e
superposed_stops before superposition shown certs inner x z n b e begun t h k names rest goal =
    superposed_rejected before superposition names shown certs inner rest x goal n e (head_as before superposition names shown certs x b true t h)
    (subst (λ w. RejectIs (verdict_at before inner w (goal_of shown) (n + 1)) e) begun k)

pub superposed_done : (before : List StatementView) (superposition : Superpose) (shown : List Lit) (certs : List Cert) (inner : Script) (x z w y after : StepState) (o : Checkpoint) (n m : ℕ) (b : Bool) → z ≡ state_after_superposed superposition x → b ≡ true
    → IsTested before superposition shown certs x b → verdict_at before inner z (goal_of shown) (n + 1) ≡ Ok m → o ≡ checkpoint_of_state x → KeepsFirstFacts z w → y ≡ state_restored o w → after ≡ state_with_facts (with_facts y.facts shown) y
    → (names : List (List ℕ)) → AreVerified before (Superposed superposition names shown certs inner) x n after m
superposed_done before superposition shown certs inner x z w y after o n m b begun t h v e k left end names =
    let v' = ap (λ q. verdict_at before inner q (goal_of shown) (n + 1)) (sym begun) ∙ v in
    let p = passed_superposed before superposition names shown certs inner x n m (head_as before superposition names shown certs x b true t h) v' in
    let kept = kept_on x z w (subst (KeepsFirstFacts x) (sym begun) (stay_all x.facts (superposing.gives_of_superposition superposition x.scope))) k in
    let back = end ∙ ap (λ q. state_with_facts (with_facts q.facts shown) q) (restored_is o x w y e kept left) in
    subst (λ q. AreVerified before (Superposed superposition names shown certs inner) x n q m) (sym back) p

-- ---- closes that are one line, as the code has them

qed_is : (c : Close) (objects : List Obj) (certs : List Cert) → c ≡ QedClose objects certs → close_script c ≡ Qed objects certs
qed_is c objects certs is = ap close_script is ∙ close_script-Qed objects certs

contradiction_is : (c : Close) (against : Option Against) → c ≡ ContradictionClose against → close_script c ≡ Contradiction against
contradiction_is c against is = ap close_script is ∙ close_script-Contradiction against

pub qed_parts : (before : List StatementView) (c : Close) (objects : List Obj) (certs seen : List Cert) (x : StepState) (goal : Goal) (n : ℕ) → c ≡ QedClose objects certs → seen ≡ certs → IsCheckable before (close_script c) x goal n
    → list_all is_writable_cert seen ≡ true
qed_parts before c objects certs seen x goal n is same r =
    ap (list_all is_writable_cert) same ∙ qed_written objects certs (subst (λ d. IsCheckable before d x goal n) (qed_is c objects certs is) r).written

pub contradiction_parts : (before : List StatementView) (c : Close) (against : Option Against) (x : StepState) (goal : Goal) (n : ℕ) → c ≡ ContradictionClose against → IsCheckable before (close_script c) x goal n
    → option_map_or is_writable_against against true ≡ true
contradiction_parts before c against x goal n is r = contradiction_written against (subst (λ d. IsCheckable before d x goal n) (contradiction_is c against is) r).written

pub qed_ok : (before : List StatementView) (c : Close) (objects os : List Obj) (certs cs : List Cert) (x : StepState) (goal : Goal) (n : ℕ) (b : Bool) (r : Result ℕ Reject) → c ≡ QedClose objects certs → os ≡ objects → cs ≡ certs
    → b ≡ is_certified before (step_in_state (Qed os cs) x goal) → IfOk r (λ next. IsTrue b × (next ≡ n + 1)) → IfOk r (λ next. verdict_at before (close_script c) x goal n ≡ Ok next)
qed_ok before c objects os certs cs x goal n b r is o k t h =
    ok_as r (verdict_at before (close_script c) x goal n) (verdict_at before (Qed objects certs) x goal n) (ap (λ d. verdict_at before d x goal n) (qed_is c objects certs is))
    (close_certified before (Qed objects certs) x goal n b r (qed_lines before objects certs x goal)
    (t ∙ ap (λ q. is_certified before (step_in_state (Qed q cs) x goal)) o ∙ ap (λ q. is_certified before (step_in_state (Qed objects q) x goal)) k) h)

pub qed_bad : (before : List StatementView) (c : Close) (objects os : List Obj) (certs cs : List Cert) (x : StepState) (goal : Goal) (n : ℕ) (b : Bool) (r : Result ℕ Reject) → c ≡ QedClose objects certs → os ≡ objects → cs ≡ certs
    → b ≡ is_certified before (step_in_state (Qed os cs) x goal) → IfErr r (λ e. IsFalse b × (e ≡ Bad n)) → IfErr r (RejectIs (verdict_at before (close_script c) x goal n))
qed_bad before c objects os certs cs x goal n b r is o k t h =
    err_as r (verdict_at before (close_script c) x goal n) (verdict_at before (Qed objects certs) x goal n) (ap (λ d. verdict_at before d x goal n) (qed_is c objects certs is))
    (close_rejected before (Qed objects certs) x goal n b r
    (t ∙ ap (λ q. is_certified before (step_in_state (Qed q cs) x goal)) o ∙ ap (λ q. is_certified before (step_in_state (Qed objects q) x goal)) k) h)

pub contradiction_ok : (before : List StatementView) (c : Close) (against : Option Against) (x : StepState) (goal : Goal) (n : ℕ) (b : Bool) (r : Result ℕ Reject) → c ≡ ContradictionClose against
    → b ≡ is_certified before (step_in_state (Contradiction against) x goal) → IfOk r (λ next. IsTrue b × (next ≡ n + 1)) → IfOk r (λ next. verdict_at before (close_script c) x goal n ≡ Ok next)
contradiction_ok before c against x goal n b r is t h =
    ok_as r (verdict_at before (close_script c) x goal n) (verdict_at before (Contradiction against) x goal n) (ap (λ d. verdict_at before d x goal n) (contradiction_is c against is))
    (close_certified before (Contradiction against) x goal n b r (contradiction_lines before against x goal) t h)

pub contradiction_bad : (before : List StatementView) (c : Close) (against : Option Against) (x : StepState) (goal : Goal) (n : ℕ) (b : Bool) (r : Result ℕ Reject) → c ≡ ContradictionClose against
    → b ≡ is_certified before (step_in_state (Contradiction against) x goal) → IfErr r (λ e. IsFalse b × (e ≡ Bad n)) → IfErr r (RejectIs (verdict_at before (close_script c) x goal n))
contradiction_bad before c against x goal n b r is t h =
    err_as r (verdict_at before (close_script c) x goal n) (verdict_at before (Contradiction against) x goal n) (ap (λ d. verdict_at before d x goal n) (contradiction_is c against is))
    (close_rejected before (Contradiction against) x goal n b r t h)

-- ---- a split

cases_is : (c : Close) (lit : Lit) (first second : Box Block Global) → c ≡ CasesClose lit first second → close_script c ≡ Cases lit (script_of first.value) (script_of second.value)
cases_is c lit first second is = ap close_script is ∙ close_script-Cases lit first second

pub split_fails : (before : List StatementView) (c : Close) (lit : Lit) (first second : Box Block Global) (x : StepState) (goal : Goal) (n : ℕ) → c ≡ CasesClose lit first second → all_in_scope x.scope lit ≡ false → verdict_at before (close_script c) x goal n ≡ Err n
split_fails before c lit first second x goal n is h =
    ap (λ d. verdict_at before d x goal n) (cases_is c lit first second is) ∙ cases_bad before lit (script_of first.value) (script_of second.value) x goal n h

pub first_ready : (before : List StatementView) (c : Close) (lit : Lit) (first second : Box Block Global) (block : Block) (x z : StepState) (goal : Goal) (n : ℕ) → c ≡ CasesClose lit first second → block ≡ first.value
    → z ≡ state_with_facts (with_fact x.facts lit) x → IsCheckable before (close_script c) x goal n → IsCheckable before (script_of block) z goal (n + 1)
first_ready before c lit first second block x z goal n is at begun r =
    let q = cases_first before lit (script_of first.value) (script_of second.value) x goal n (subst (λ d. IsCheckable before d x goal n) (cases_is c lit first second is) r) in
    subst (λ b. IsCheckable before (script_of b) z goal (n + 1)) (sym at) (subst (λ w. IsCheckable before (script_of first.value) w goal (n + 1)) (sym begun) q)

pub first_stops : (before : List StatementView) (c : Close) (lit : Lit) (first second : Box Block Global) (block : Block) (x z : StepState) (goal : Goal) (n : ℕ) (e : Reject) → c ≡ CasesClose lit first second → block ≡ first.value
    → z ≡ state_with_facts (with_fact x.facts lit) x → all_in_scope x.scope lit ≡ true → RejectIs (verdict_at before (script_of block) z goal (n + 1)) e → RejectIs (verdict_at before (close_script c) x goal n) e
first_stops before c lit first second block x z goal n e is at begun h k =
    reject_as (verdict_at before (close_script c) x goal n) (verdict_at before (Cases lit (script_of first.value) (script_of second.value)) x goal n) e (ap (λ d. verdict_at before d x goal n) (cases_is c lit first second is))
    (cases_rejected before lit (script_of first.value) (script_of second.value) x goal n e h
    (subst (λ w. RejectIs (verdict_at before (script_of first.value) w goal (n + 1)) e) begun (subst (λ b. RejectIs (verdict_at before (script_of b) z goal (n + 1)) e) at k)))

-- what holds after the first block
pub record IsAfterFirst (before : List StatementView) (lit : Lit) (first : Script) (x : StepState) (goal : Goal) (n m : ℕ) (after : StepState) : Type 0 where
  pub passed : verdict_at before first (state_with_facts (with_fact x.facts lit) x) goal (n + 1) ≡ Ok m
  pub begun : after ≡ state_with_facts (with_fact x.facts (negation lit)) x

pub after_first : (before : List StatementView) (lit : Lit) (first : Box Block Global) (block : Block) (x z w y after : StepState) (o : Checkpoint) (goal : Goal) (n m : ℕ) → block ≡ first.value → z ≡ state_with_facts (with_fact x.facts lit) x
    → verdict_at before (script_of block) z goal (n + 1) ≡ Ok m → o ≡ checkpoint_of_state x → KeepsFirstFacts z w → y ≡ state_restored o w → after ≡ state_with_facts (with_fact y.facts (negation lit)) y → IsAfterFirst before lit (script_of first.value) x goal n m after
after_first before lit first block x z w y after o goal n m at begun v e k left end =
    let kept = kept_on x z w (subst (KeepsFirstFacts x) (sym begun) (stay_joined x.facts lit)) k in
    record {
      passed = ap (λ q. verdict_at before (script_of first.value) q goal (n + 1)) (sym begun) ∙ ap (λ b. verdict_at before (script_of b) z goal (n + 1)) (sym at) ∙ v;
      begun = end ∙ ap (λ q. state_with_facts (with_fact q.facts (negation lit)) q) (restored_is o x w y e kept left);
    }

pub second_ready : (before : List StatementView) (c : Close) (lit : Lit) (first second : Box Block Global) (block : Block) (x after : StepState) (goal : Goal) (n m : ℕ) → c ≡ CasesClose lit first second → block ≡ second.value
    → IsAfterFirst before lit (script_of first.value) x goal n m after → IsCheckable before (close_script c) x goal n → IsCheckable before (script_of block) after goal m
second_ready before c lit first second block x after goal n m is at b r =
    let q = cases_second before lit (script_of first.value) (script_of second.value) x goal n m (subst (λ d. IsCheckable before d x goal n) (cases_is c lit first second is) r) b.passed in
    subst (λ q. IsCheckable before (script_of q) after goal m) (sym at) (subst (λ w. IsCheckable before (script_of second.value) w goal m) (sym b.begun) q)

pub split_same : (before : List StatementView) (c : Close) (lit : Lit) (first second : Box Block Global) (block : Block) (x after : StepState) (goal : Goal) (n m : ℕ) → c ≡ CasesClose lit first second → block ≡ second.value
    → all_in_scope x.scope lit ≡ true → IsAfterFirst before lit (script_of first.value) x goal n m after → verdict_at before (close_script c) x goal n ≡ verdict_at before (script_of block) after goal m
split_same before c lit first second block x after goal n m is at h b =
    ap (λ d. verdict_at before d x goal n) (cases_is c lit first second is)
    ∙ cases_same before lit (script_of first.value) (script_of second.value) x goal n m h b.passed
    ∙ ap (λ w. verdict_at before (script_of second.value) w goal m) (sym b.begun)
    ∙ ap (λ q. verdict_at before (script_of q) after goal m) (sym at)

pub kept_after_first : (before : List StatementView) (lit : Lit) (first : Script) (x after z : StepState) (goal : Goal) (n m : ℕ) → IsAfterFirst before lit first x goal n m after → KeepsFirstFacts after z → KeepsFirstFacts x z
kept_after_first before lit first x after z goal n m b k = kept_on x after z (subst (KeepsFirstFacts x) (sym b.begun) (stay_joined x.facts (negation lit))) k
