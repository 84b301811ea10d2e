-- Steps and closes with places, as the code has them.
use Rattle.std.proofs.Common.{◌≡◌, ℕ, ◌+◌, ◌<◌, ◌^◌, List, [], ◌∷◌, ◌++◌, length, drop, get_or, refl, sym, ap, ap₂, ◌∙◌, subst, Bool, true, ◌&&◌, lt-ltb, ltb-true, Option, Some, None, Result, Ok, Err, Box, Global}
use Rattle.std.specs.Prelude.{IfOk, OnOk, nat_lt}
use Rattle.std.specs.List.{list_all}
use Rattle.std.specs.Option.{option_map, option_map_or}
use Rattle.std.proofs.lemmas.Grind.{common_steps}
use Rattle.e_literal.specs.declared.object.Obj.{Obj}
use Rattle.e_literal.specs.declared.literal.Lit.{Lit}
use Rattle.e_literal.specs.Literal.{negation, all_in_scope}
use Rattle.e_literal.specs.Facts.{with_fact, with_facts}
use Rattle.e_literal.specs.Use.{StatementView, are_arguments, gives_of_use, needs_of_use}
use Rattle.e_literal.proofs.Booleans.{and_left, and_right, all_left, all_right, all_both}
use Rattle.e_clause.specs.Certify.{certify_all}
use Rattle.e_clause.specs.declared.cert.Against.{Against}
use Rattle.e_clause.specs.declared.cert.By.{By}
use Rattle.e_clause.specs.declared.cert.Cert.{Cert}
use Rattle.e_construct.specs.declared.construction.Construction.{Construction}
use Rattle.e_construct.specs.declared.superpose.Superpose.{Superpose}
use Rattle.e_construct.specs.Construct as construct
use Rattle.e_construct.specs.Superposing as superposing
use Rattle.e_deriv.specs.declared.block.Block.{Block}
use Rattle.e_deriv.specs.declared.block.Step.{Step}
use Rattle.e_deriv.specs.declared.block.Step.TheVariants.{Cite as CiteStep, Hence as HenceStep, Make as MakeStep, Apply as ApplyStep}
use Rattle.e_deriv.specs.declared.block.Close.{Close}
use Rattle.e_deriv.specs.declared.block.Close.TheVariants.{Qed as QedClose, Contradiction as ContradictionClose, Cases as CasesClose}
use Rattle.e_deriv.specs.Script.{Script, Cite, Hence, Make, Apply, Claim, Superposed, Qed, Contradiction, Cases, script_of, step_script, steps_script, close_script}
use Rattle.e_deriv.specs.Goal.{Goal, goal_of, goal_of_statement, goal_with, are_for}
use Rattle.e_deriv.specs.PlacedSteps.{PlacedStep, theorem_at}
use Rattle.e_deriv.specs.Parts.{has_no_blank, args_written}
use Rattle.e_deriv.specs.Steps.{are_over, is_applied}
use Rattle.e_deriv.specs.Certified.{Certified, derivation_steps, is_certified}
use Rattle.e_deriv.specs.Fitting.{is_small}
use Rattle.e_theorem.specs.Choice.{fills}
use Rattle.e_deriv.proofs.Scripts.{steps_at, steps_script-append, step_script-Cite, step_script-Hence, step_script-Make, step_script-Apply, close_script-Qed, close_script-Contradiction, close_script-Cases}
use Rattle.e_deriv.proofs.Keeping.{stay_joined, stay_all}
use Rattle.e_verify.specs.declared.step_state.StepState.{StepState}
use Rattle.e_verify.specs.declared.step_state.Checkpoint.{Checkpoint}
use Rattle.e_verify.specs.StepStates.{state_at_start, state_with_facts, state_after_make, state_after_superposed, checkpoint_of_state, state_restored}
use Rattle.e_places.specs.inner.Numbering.{is_ready, IsReady, AreReady, IsApplied, has_few, HaveFew, IsNumberedStep, places_at}
use Rattle.e_verify.specs.Checking.{step_in_state, steps_in_state, KeepsFirstFacts}
use Rattle.e_places.specs.Numbered.{cert_with_places, certs_with_places, against_with_places, with_places}
use Rattle.e_verify.proofs.checking.FirstLines.{cite_lines, hence_lines, make_lines, apply_lines, qed_lines, contradiction_lines, cases_lines, claim_lines, superposed_lines, after_apply, some_lines}
use Rattle.e_verify.proofs.checking.InnerBlocks.{kept_on, restored_is}

-- ---- what is put at one line

cite_places : (before : List StatementView) (by : By) (x : StepState) (rest : Script) (goal : Goal) → places_at before (Cite by rest) x goal ≡ Cite by (places_at before rest (state_with_facts (with_fact x.facts by.lit) x) goal)
unfolding with_places
cite_places before by x rest goal = refl

hence_places : (before : List StatementView) (lit : Lit) (cert : Option Cert) (x : StepState) (rest : Script) (goal : Goal)
    → places_at before (Hence lit cert rest) x goal ≡ Hence lit (option_map (cert_with_places x.facts lit) cert) (places_at before rest (state_with_facts (with_fact x.facts lit) x) goal)
unfolding with_places
hence_places before lit cert x rest goal = refl

make_places : (before : List StatementView) (construction : Construction) (names : List (List ℕ)) (certs : List Cert) (x : StepState) (rest : Script) (goal : Goal)
    → places_at before (Make construction names certs rest) x goal ≡ Make construction names (certs_with_places x.facts (construct.needs_of_construction construction) certs) (places_at before rest (state_after_make construction x) goal)
unfolding with_places
make_places before construction names certs x rest goal = refl

apply_places : (before : List StatementView) (theorem : ℕ) (args : List (Option Obj)) (names : List (List ℕ)) (certs : List Cert) (x : StepState) (rest : Script) (goal : Goal)
    → places_at before (Apply theorem args names certs rest) x goal
    ≡ Apply theorem args names (certs_with_places x.facts (needs_of_use (theorem_at before theorem) (args_written args) x.scope) certs) (places_at before rest (after_apply (theorem_at before theorem) (args_written args) x) goal)
unfolding with_places
apply_places before theorem args names certs x rest goal = refl

claim_places : (before : List StatementView) (shown : List Lit) (inner : Script) (x : StepState) (rest : Script) (goal : Goal)
    → places_at before (Claim shown inner rest) x goal ≡ Claim shown (places_at before inner x (goal_of shown)) (places_at before rest (state_with_facts (with_facts x.facts shown) x) goal)
unfolding with_places
claim_places before shown inner x rest goal = refl

superposed_places : (before : List StatementView) (superposition : Superpose) (names : List (List ℕ)) (shown : List Lit) (certs : List Cert) (inner : Script) (x : StepState) (rest : Script) (goal : Goal)
    → places_at before (Superposed superposition names shown certs inner rest) x goal
    ≡ Superposed superposition names shown (certs_with_places x.facts (superposing.needs_of_superposition superposition) certs) (places_at before inner (state_after_superposed superposition x) (goal_of shown)) (places_at before rest (state_with_facts (with_facts x.facts shown) x) goal)
unfolding with_places
superposed_places before superposition names shown certs inner x rest goal = refl

pub qed_places : (before : List StatementView) (objects : List Obj) (certs : List Cert) (x : StepState) (goal : Goal) → places_at before (Qed objects certs) x goal ≡ Qed objects (certs_with_places x.facts (goal_with goal objects) certs)
unfolding with_places
qed_places before objects certs x goal = refl

pub contradiction_places : (before : List StatementView) (against : Option Against) (x : StepState) (goal : Goal) → places_at before (Contradiction against) x goal ≡ Contradiction (option_map (against_with_places x.facts) against)
unfolding with_places
contradiction_places before against x goal = refl

cases_places : (before : List StatementView) (lit : Lit) (first second : Script) (x : StepState) (goal : Goal)
    → places_at before (Cases lit first second) x goal ≡ Cases lit (places_at before first (state_with_facts (with_fact x.facts lit) x) goal) (places_at before second (state_with_facts (with_fact x.facts (negation lit)) x) goal)
unfolding with_places
cases_places before lit first second x goal = refl

-- ---- few facts before each line

few_first : (x : StepState) → length x.facts < 2 ^ 32 → nat_lt (length x.facts) (2 ^ 32) ≡ true
few_first x few = lt-ltb (length x.facts) (2 ^ 32) few

few_line : (before : List StatementView) (d : Script) (x : StepState) (goal : Goal) (rest : Script) (after : StepState) → length x.facts < 2 ^ 32 → steps_in_state before d x goal ≡ step_in_state d x goal ∷ steps_in_state before rest after goal
    → HaveFew before rest after goal → HaveFew before d x goal
few_line before d x goal rest after few is h = ap (list_all has_few) is ∙ ap₂ {A = Bool} {B = Bool} (λ a b. a && b) (few_first x few) h

pub few_close : (before : List StatementView) (d : Script) (x : StepState) (goal : Goal) → length x.facts < 2 ^ 32 → steps_in_state before d x goal ≡ step_in_state d x goal ∷ [] → HaveFew before d x goal
few_close before d x goal few is = ap (list_all has_few) is ∙ ap₂ {A = Bool} {B = Bool} (λ a b. a && b) (few_first x few) refl

-- ---- what is ready

rest_ready : (before : List StatementView) (d : Script) (x : StepState) (goal : Goal) (rest : Script) (after : StepState) → steps_in_state before d x goal ≡ step_in_state d x goal ∷ steps_in_state before rest after goal
    → IsReady before d x goal → IsReady before rest after goal
rest_ready before d x goal rest after is h =
    and_right (is_ready before (step_in_state d x goal)) (list_all (is_ready before) (steps_in_state before rest after goal)) (sym (ap (list_all (is_ready before)) is) ∙ h)

-- the block inside, and what comes after it
both_ready : (before : List StatementView) (d : Script) (x : StepState) (goal : Goal) (within next : List PlacedStep) → steps_in_state before d x goal ≡ step_in_state d x goal ∷ (within ++ next)
    → IsReady before d x goal → (list_all (is_ready before) within ≡ true) × (list_all (is_ready before) next ≡ true)
both_ready before d x goal within next is h =
    let both = and_right (is_ready before (step_in_state d x goal)) (list_all (is_ready before) (within ++ next)) (sym (ap (list_all (is_ready before)) is) ∙ h) in
    (all_left (is_ready before) within next both, all_right (is_ready before) within next both)

first_ready : (before : List StatementView) (d : Script) (x : StepState) (goal : Goal) → IsReady before d x goal → (is_certified before (step_in_state d x goal) ≡ true) × (is_small x.scope ≡ true)
first_ready before d x goal h =
    let k = some_lines before d x goal in
    let first = and_left (is_ready before (step_in_state d x goal)) (list_all (is_ready before) k.0) (sym (ap (list_all (is_ready before)) k.1) ∙ h) in
    (and_left (is_certified before (step_in_state d x goal)) (is_small x.scope) first, and_right (is_certified before (step_in_state d x goal)) (is_small x.scope) first)

all_of_both : (p q : PlacedStep → Bool) (xs : List PlacedStep) → list_all p xs ≡ true → list_all q xs ≡ true → list_all (λ x. p x && q x) xs ≡ true
all_of_both p q [] h k = refl
all_of_both p q (x ∷ xs) h k =
    ap₂ {A = Bool} {B = Bool} (λ a b. a && b) (ap₂ {A = Bool} {B = Bool} (λ a b. a && b) (and_left (p x) (list_all p xs) h) (and_left (q x) (list_all q xs) k))
    (all_of_both p q xs (and_right (p x) (list_all p xs) h) (and_right (q x) (list_all q xs) k))

-- a certified derivation is, from its start on
pub start_ready : (before : List StatementView) (t : StatementView) (d : Script) (x : StepState) (g : Goal) → Certified before t d → list_all (λ y. is_small y.scope) (derivation_steps before t d) ≡ true → x ≡ state_at_start t → g ≡ goal_of_statement t
    → IsReady before d x g
start_ready before t d x g certified small is same =
    subst (λ y. IsReady before d y g) (sym is) (subst (λ h. IsReady before d (state_at_start t) h) (sym same)
    (all_of_both (is_certified before) (λ (y : PlacedStep). is_small y.scope) (derivation_steps before t d) certified small))

pub small_scope : (before : List StatementView) (whole : Script → Script) (x : StepState) → AreReady before whole x → is_small x.scope ≡ true
small_scope before whole x r = (first_ready before (whole r.rest) x r.goal r.ready).1

pub apply_fits : (before : List StatementView) (theorem : ℕ) (args : List (Option Obj)) (names : List (List ℕ)) (certs : List Cert) (x : StepState) → AreReady before (Apply theorem args names certs) x → IsApplied before theorem args x
apply_fits before theorem args names certs x r =
    let t = theorem_at before theorem in
    let low = nat_lt theorem (length before) in
    let choice = fills args (args_written args) && are_arguments t x.scope (args_written args) in
    let all = certify_all x.scope x.facts (needs_of_use t (args_written args) x.scope) certs in
    let h = (first_ready before (Apply theorem args names certs r.rest) x r.goal r.ready).0 in
    let fit = and_left (low && choice) (all && has_no_blank args) h in
    record {
      place = ltb-true theorem (length before) (and_left low choice fit);
      blank = and_right all (has_no_blank args) (and_right (low && choice) (all && has_no_blank args) h);
      fit = and_right (fills args (args_written args)) (are_arguments t x.scope (args_written args)) (and_right low choice fit);
    }

-- the blocks inside
pub claim_ready : (before : List StatementView) (shown : List Lit) (inner : Script) (x : StepState) → AreReady before (Claim shown inner) x → IsReady before inner x (goal_of shown)
claim_ready before shown inner x r =
    (both_ready before (Claim shown inner r.rest) x r.goal (steps_in_state before inner x (goal_of shown)) (steps_in_state before r.rest (state_with_facts (with_facts x.facts shown) x) r.goal) (claim_lines before shown inner x r.rest r.goal) r.ready).0

pub superposed_ready : (before : List StatementView) (superposition : Superpose) (names : List (List ℕ)) (shown : List Lit) (certs : List Cert) (inner : Script) (x z : StepState) → z ≡ state_after_superposed superposition x
    → AreReady before (Superposed superposition names shown certs inner) x → IsReady before inner z (goal_of shown)
superposed_ready before superposition names shown certs inner x z begun r =
    subst (λ w. IsReady before inner w (goal_of shown)) (sym begun) (both_ready before (Superposed superposition names shown certs inner r.rest) x r.goal (steps_in_state before inner (state_after_superposed superposition x) (goal_of shown)) (steps_in_state before r.rest (state_with_facts (with_facts x.facts shown) x) r.goal)
    (superposed_lines before superposition names shown certs inner x r.rest r.goal) r.ready).0

-- a step as the code has it
pub ready_as : (before : List StatementView) (f g : Script → Script) (x : StepState) → ((rest : Script) → f rest ≡ g rest) → AreReady before f x → AreReady before g x
ready_as before f g x e r = record { rest = r.rest; goal = r.goal; ready = subst (λ d. IsReady before d x r.goal) (e r.rest) r.ready }

-- ---- steps of one line

pub cite_numbered : (before : List StatementView) (by : By) (x after : StepState) (s : Step) → s ≡ CiteStep by → after ≡ state_with_facts (with_fact x.facts by.lit) x → IsNumberedStep before (Cite by) x (step_script s) after
cite_numbered before by x after s is end =
    subst (λ (y : StepState). IsNumberedStep before (Cite by) x (step_script s) y) (sym end)
    (record {
      same = λ rest goal. cite_places before by x rest goal ∙ sym (ap (λ t. step_script t (places_at before rest (state_with_facts (with_fact x.facts by.lit) x) goal)) is ∙ step_script-Cite by _);
      few = λ few rest goal h. few_line before (Cite by rest) x goal rest (state_with_facts (with_fact x.facts by.lit) x) few (cite_lines before by x rest goal) h;
      ready = λ rest goal h. rest_ready before (Cite by rest) x goal rest (state_with_facts (with_fact x.facts by.lit) x) (cite_lines before by x rest goal) h;
      kept = stay_joined x.facts by.lit;
    })

pub hence_numbered : (before : List StatementView) (lit : Lit) (cert : Option Cert) (x after : StepState) (s : Step) → s ≡ HenceStep lit (option_map (cert_with_places x.facts lit) cert) → after ≡ state_with_facts (with_fact x.facts lit) x
    → IsNumberedStep before (Hence lit cert) x (step_script s) after
hence_numbered before lit cert x after s is end =
    subst (λ (y : StepState). IsNumberedStep before (Hence lit cert) x (step_script s) y) (sym end)
    (record {
      same = λ rest goal. hence_places before lit cert x rest goal ∙ sym (ap (λ t. step_script t (places_at before rest (state_with_facts (with_fact x.facts lit) x) goal)) is ∙ step_script-Hence lit (option_map (cert_with_places x.facts lit) cert) _);
      few = λ few rest goal h. few_line before (Hence lit cert rest) x goal rest (state_with_facts (with_fact x.facts lit) x) few (hence_lines before lit cert x rest goal) h;
      ready = λ rest goal h. rest_ready before (Hence lit cert rest) x goal rest (state_with_facts (with_fact x.facts lit) x) (hence_lines before lit cert x rest goal) h;
      kept = stay_joined x.facts lit;
    })

pub make_numbered : (before : List StatementView) (construction : Construction) (names : List (List ℕ)) (certs : List Cert) (x after : StepState) (s : Step) → s ≡ MakeStep construction names (certs_with_places x.facts (construct.needs_of_construction construction) certs) → after ≡ state_after_make construction x
    → IsNumberedStep before (Make construction names certs) x (step_script s) after
make_numbered before construction names certs x after s is end =
    subst (λ (y : StepState). IsNumberedStep before (Make construction names certs) x (step_script s) y) (sym end)
    (record {
      same = λ rest goal. make_places before construction names certs x rest goal
          ∙ sym (ap (λ t. step_script t (places_at before rest (state_after_make construction x) goal)) is ∙ step_script-Make construction names (certs_with_places x.facts (construct.needs_of_construction construction) certs) _);
      few = λ few rest goal h. few_line before (Make construction names certs rest) x goal rest (state_after_make construction x) few (make_lines before construction names certs x rest goal) h;
      ready = λ rest goal h. rest_ready before (Make construction names certs rest) x goal rest (state_after_make construction x) (make_lines before construction names certs x rest goal) h;
      kept = stay_all x.facts (construct.gives_of_construction construction x.scope);
    })

pub apply_numbered : (before : List StatementView) (theorem : ℕ) (args : List (Option Obj)) (names : List (List ℕ)) (certs : List Cert) (x after : StepState) (s : Step)
    → s ≡ ApplyStep theorem args names (certs_with_places x.facts (needs_of_use (theorem_at before theorem) (args_written args) x.scope) certs) → after ≡ after_apply (theorem_at before theorem) (args_written args) x
    → IsNumberedStep before (Apply theorem args names certs) x (step_script s) after
apply_numbered before theorem args names certs x after s is end =
    let t = theorem_at before theorem in
    let placed = certs_with_places x.facts (needs_of_use t (args_written args) x.scope) certs in
    subst (λ (y : StepState). IsNumberedStep before (Apply theorem args names certs) x (step_script s) y) (sym end)
    (record {
      same = λ rest goal. apply_places before theorem args names certs x rest goal ∙ sym (ap (λ u. step_script u (places_at before rest (after_apply t (args_written args) x) goal)) is ∙ step_script-Apply theorem args names placed _);
      few = λ few rest goal h. few_line before (Apply theorem args names certs rest) x goal rest (after_apply t (args_written args) x) few (apply_lines before theorem args names certs x rest goal) h;
      ready = λ rest goal h. rest_ready before (Apply theorem args names certs rest) x goal rest (after_apply t (args_written args) x) (apply_lines before theorem args names certs x rest goal) h;
      kept = stay_all x.facts (gives_of_use t (args_written args) x.scope);
    })

pub qed_numbered : (before : List StatementView) (objects : List Obj) (certs : List Cert) (x : StepState) (goal : Goal) (c : Close) → c ≡ QedClose objects (certs_with_places x.facts (goal_with goal objects) certs) → close_script c ≡ places_at before (Qed objects certs) x goal
qed_numbered before objects certs x goal c is = ap close_script is ∙ close_script-Qed objects (certs_with_places x.facts (goal_with goal objects) certs) ∙ sym (qed_places before objects certs x goal)

pub contradiction_numbered : (before : List StatementView) (against : Option Against) (x : StepState) (goal : Goal) (c : Close) → c ≡ ContradictionClose (option_map (against_with_places x.facts) against) → close_script c ≡ places_at before (Contradiction against) x goal
contradiction_numbered before against x goal c is = ap close_script is ∙ close_script-Contradiction (option_map (against_with_places x.facts) against) ∙ sym (contradiction_places before against x goal)

pub ruleset placing = (common_steps, cite_numbered, hence_numbered, make_numbered, apply_numbered, qed_numbered, contradiction_numbered)

-- ---- steps with a block inside

-- back where the block was entered, with what it shows
back_is : (o : Checkpoint) (x z after : StepState) (again shown : List Lit) → o ≡ checkpoint_of_state x → KeepsFirstFacts x z → again ≡ shown → after ≡ state_with_facts (with_facts (state_restored o z).facts again) (state_restored o z) → after ≡ state_with_facts (with_facts x.facts shown) x
back_is o x z after again shown e k twice end =
    end ∙ ap (λ w. state_with_facts (with_facts w.facts again) w) (restored_is o x z (state_restored o z) e k refl) ∙ ap (λ ls. state_with_facts (with_facts x.facts ls) x) twice

pub claim_numbered : (before : List StatementView) (shown : List Lit) (inner : Script) (numbered : Block) (x z after : StepState) (o : Checkpoint) (s : Step) → script_of numbered ≡ places_at before inner x (goal_of shown)
    → HaveFew before inner x (goal_of shown) → o ≡ checkpoint_of_state x → KeepsFirstFacts x z → ((rest : Script) → step_script s rest ≡ Claim shown (script_of numbered) rest)
    → after ≡ state_with_facts (with_facts (state_restored o z).facts shown) (state_restored o z) → IsNumberedStep before (Claim shown inner) x (step_script s) after
claim_numbered before shown inner numbered x z after o s placed few e k made end =
    let later : StepState = state_with_facts (with_facts x.facts shown) x in
    subst (λ (w : StepState). IsNumberedStep before (Claim shown inner) x (step_script s) w) (sym (back_is o x z after shown shown e k refl end))
    (record {
      same = λ rest goal.
          claim_places before shown inner x rest goal ∙ ap (λ d. Claim shown d (places_at before rest later goal)) (sym placed) ∙ sym (made (places_at before rest later goal));
      few = λ all rest goal h.
          ap (list_all has_few) (claim_lines before shown inner x rest goal)
          ∙ ap₂ {A = Bool} {B = Bool} (λ a b. a && b) (few_first x all) (all_both has_few (steps_in_state before inner x (goal_of shown)) (steps_in_state before rest later goal) few h);
      ready = λ rest goal h. (both_ready before (Claim shown inner rest) x goal (steps_in_state before inner x (goal_of shown)) (steps_in_state before rest later goal) (claim_lines before shown inner x rest goal) h).1;
      kept = stay_all x.facts shown;
    })

pub superposed_numbered : (before : List StatementView) (superposition : Superpose) (names : List (List ℕ)) (shown : List Lit) (certs placed : List Cert) (inner : Script) (numbered : Block) (x z w after : StepState) (o : Checkpoint) (s : Step)
    → placed ≡ certs_with_places x.facts (superposing.needs_of_superposition superposition) certs → z ≡ state_after_superposed superposition x → script_of numbered ≡ places_at before inner z (goal_of shown) → HaveFew before inner z (goal_of shown)
    → o ≡ checkpoint_of_state x → KeepsFirstFacts z w → ((rest : Script) → step_script s rest ≡ Superposed superposition names shown placed (script_of numbered) rest)
    → after ≡ state_with_facts (with_facts (state_restored o w).facts shown) (state_restored o w) → IsNumberedStep before (Superposed superposition names shown certs inner) x (step_script s) after
superposed_numbered before superposition names shown certs placed inner numbered x z w after o s put begun block_is few e k made end =
    let kept = kept_on x z w (subst (KeepsFirstFacts x) (sym begun) (stay_all x.facts (superposing.gives_of_superposition superposition x.scope))) k in
    let begin : StepState = state_after_superposed superposition x in
    let later : StepState = state_with_facts (with_facts x.facts shown) x in
    let block_placed : script_of numbered ≡ places_at before inner begin (goal_of shown) = block_is ∙ ap (λ q. places_at before inner q (goal_of shown)) begun in
    let block_few : HaveFew before inner begin (goal_of shown) = subst (λ q. HaveFew before inner q (goal_of shown)) begun few in
    subst (λ (q : StepState). IsNumberedStep before (Superposed superposition names shown certs inner) x (step_script s) q) (sym (back_is o x w after shown shown e kept refl end))
    (record {
      same = λ rest goal.
          superposed_places before superposition names shown certs inner x rest goal
          ∙ sym (made (places_at before rest later goal)
          ∙ ap₂ {A = List Cert} {B = Script} (λ ps d. Superposed superposition names shown ps d (places_at before rest later goal)) put block_placed);
      few = λ all rest goal h.
          ap (list_all has_few) (superposed_lines before superposition names shown certs inner x rest goal)
          ∙ ap₂ {A = Bool} {B = Bool} (λ a b. a && b) (few_first x all) (all_both has_few (steps_in_state before inner begin (goal_of shown)) (steps_in_state before rest later goal) block_few h);
      ready = λ rest goal h. (both_ready before (Superposed superposition names shown certs inner rest) x goal (steps_in_state before inner begin (goal_of shown)) (steps_in_state before rest later goal) (superposed_lines before superposition names shown certs inner x rest goal) h).1;
      kept = stay_all x.facts shown;
    })

-- where memory lasts, and what the call gave
pub ok_with : {E : Type 0} {P Q : Step → Type 0} {A : Type 0} (r : Result Step E) → IfOk r P → OnOk r A → ((s : Step) → P s → A → Q s) → IfOk r Q
ok_with (Ok s) h a f = f s h a
ok_with (Err k) h a f = h

pub if_ok : {X E : Type 0} {P Q : X → Type 0} (r : Result X E) → IfOk r P → ((x : X) → P x → Q x) → IfOk r Q
if_ok (Ok x) h f = f x h
if_ok (Err e) h f = h

-- where memory lasts, what holds
pub where_ok : {X E A : Type 0} (r : Result X E) → A → OnOk r A
where_ok (Ok x) a = a
where_ok (Err e) a = tt

-- a step as the code has it
pub step_as : (before : List StatementView) (step : Step) (f g : Script → Script) (x after : StepState) → ((rest : Script) → step_script step rest ≡ f rest) → IsNumberedStep before f x g after → IsNumberedStep before (step_script step) x g after
step_as before step f g x after e h = record {
  same = λ rest goal. ap (λ d. places_at before d x goal) (e rest) ∙ h.same rest goal;
  few = λ all rest goal k. subst (λ d. HaveFew before d x goal) (sym (e rest)) (h.few all rest goal k);
  ready = λ rest goal k. h.ready rest goal (subst (λ d. IsReady before d x goal) (e rest) k);
  kept = h.kept;
}

-- the same of what a call gave
pub step_ok : {E : Type 0} (before : List StatementView) (step : Step) (f : Script → Script) (x after : StepState) (r : Result Step E) → ((rest : Script) → step_script step rest ≡ f rest)
    → IfOk r (λ s. IsNumberedStep before f x (step_script s) after) → IfOk r (λ s. IsNumberedStep before (step_script step) x (step_script s) after)
step_ok before step f x after (Ok s) e h = step_as before step f (step_script s) x after e h
step_ok before step f x after (Err k) e h = h

-- what holds whatever came before holds with this before
pub all_before : {E : Type 0} (before : List StatementView) (f : Script → Script) (x after : StepState) (r : Result Step E)
    → IfOk r (λ s. (bs : List StatementView) → IsNumberedStep bs f x (step_script s) after) → IfOk r (λ s. IsNumberedStep before f x (step_script s) after)
all_before before f x after (Ok s) h = h before
all_before before f x after (Err k) h = h

-- ---- closes of one line

qed_is : (c : Close) (objects : List Obj) (certs : List Cert) → c ≡ QedClose objects certs → close_script c ≡ Qed objects certs
qed_is c objects certs is = ap close_script is ∙ close_script-Qed objects certs

pub qed_same : (before : List StatementView) (c k : Close) (objects seen : List Obj) (certs like : List Cert) (x : StepState) (goal : Goal) → c ≡ QedClose objects certs → seen ≡ objects → like ≡ certs
    → close_script k ≡ places_at before (Qed seen like) x goal → close_script k ≡ places_at before (close_script c) x goal
qed_same before c k objects seen certs like x goal is same also e =
    e ∙ ap (λ os. places_at before (Qed os like) x goal) same ∙ ap (λ cs. places_at before (Qed objects cs) x goal) also ∙ sym (ap (λ d. places_at before d x goal) (qed_is c objects certs is))

pub qed_few : (before : List StatementView) (c : Close) (objects : List Obj) (certs : List Cert) (x : StepState) (goal : Goal) → c ≡ QedClose objects certs → length x.facts < 2 ^ 32 → HaveFew before (close_script c) x goal
qed_few before c objects certs x goal is few =
    ap (λ d. list_all has_few (steps_in_state before d x goal)) (qed_is c objects certs is) ∙ few_close before (Qed objects certs) x goal few (qed_lines before objects certs x goal)

contradiction_is : (c : Close) (against : Option Against) → c ≡ ContradictionClose against → close_script c ≡ Contradiction against
contradiction_is c against is = ap close_script is ∙ close_script-Contradiction against

pub contradiction_same : (before : List StatementView) (c k : Close) (against : Option Against) (x : StepState) (goal : Goal) → c ≡ ContradictionClose against → k ≡ ContradictionClose (option_map (against_with_places x.facts) against)
    → close_script k ≡ places_at before (close_script c) x goal
contradiction_same before c k against x goal is e = contradiction_numbered before against x goal k e ∙ sym (ap (λ d. places_at before d x goal) (contradiction_is c against is))

pub contradiction_few : (before : List StatementView) (c : Close) (against : Option Against) (x : StepState) (goal : Goal) → c ≡ ContradictionClose against → length x.facts < 2 ^ 32 → HaveFew before (close_script c) x goal
contradiction_few before c against x goal is few =
    ap (λ d. list_all has_few (steps_in_state before d x goal)) (contradiction_is c against is) ∙ few_close before (Contradiction against) x goal few (contradiction_lines before against x goal)

pub qed_fits : (before : List StatementView) (c : Close) (objects : List Obj) (certs : List Cert) (x : StepState) (goal : Goal) → c ≡ QedClose objects certs → IsReady before (close_script c) x goal
    → are_for goal x.scope objects ≡ true
qed_fits before c objects certs x goal is r =
    let fit = are_for goal x.scope objects in
    let all = certify_all x.scope x.facts (goal_with goal objects) certs in
    let h = (first_ready before (Qed objects certs) x goal (subst (λ d. IsReady before d x goal) (qed_is c objects certs is) r)).0 in
    and_left fit (all && true) h

-- ---- a split

-- what holds after the first block
pub after_cases : (x z w y after : StepState) (lit : Lit) (o : Checkpoint) → z ≡ state_with_facts (with_fact x.facts lit) x → o ≡ checkpoint_of_state x → KeepsFirstFacts z w → y ≡ state_restored o w → after ≡ state_with_facts (with_fact y.facts (negation lit)) y
    → after ≡ state_with_facts (with_fact x.facts (negation lit)) x
after_cases x z w y after lit o begun e k left end =
    let kept = kept_on x z w (subst (KeepsFirstFacts x) (sym begun) (stay_joined x.facts lit)) k in
    end ∙ ap (λ q. state_with_facts (with_fact q.facts (negation lit)) q) (restored_is o x w y e kept left)

pub cases_numbered : (before : List StatementView) (c : Close) (lit : Lit) (first second : Box Block Global) (b1 b2 n1 n2 : Block) (x z after : StepState) (goal : Goal)
    → c ≡ CasesClose lit first second → b1 ≡ first.value → b2 ≡ second.value → z ≡ state_with_facts (with_fact x.facts lit) x → script_of n1 ≡ places_at before (script_of b1) z goal → after ≡ state_with_facts (with_fact x.facts (negation lit)) x
    → script_of n2 ≡ places_at before (script_of b2) after goal → Cases lit (script_of n1) (script_of n2) ≡ places_at before (close_script c) x goal
cases_numbered before c lit first second b1 b2 n1 n2 x z after goal is at1 at2 begun placed1 back placed2 =
    let p1 : script_of n1 ≡ places_at before (script_of first.value) (state_with_facts (with_fact x.facts lit) x) goal =
    placed1 ∙ ap (λ q. places_at before (script_of b1) q goal) begun ∙ ap (λ b. places_at before (script_of b) (state_with_facts (with_fact x.facts lit) x) goal) at1 in
    let p2 : script_of n2 ≡ places_at before (script_of second.value) (state_with_facts (with_fact x.facts (negation lit)) x) goal =
    placed2 ∙ ap (λ q. places_at before (script_of b2) q goal) back ∙ ap (λ b. places_at before (script_of b) (state_with_facts (with_fact x.facts (negation lit)) x) goal) at2 in
    ap₂ {A = Script} {B = Script} (Cases lit) p1 p2 ∙ sym (cases_places before lit (script_of first.value) (script_of second.value) x goal)
    ∙ sym (ap (λ d. places_at before d x goal) (ap close_script is ∙ close_script-Cases lit first second))

pub cases_few : (before : List StatementView) (c : Close) (lit : Lit) (first second : Box Block Global) (b1 b2 : Block) (x z after : StepState) (goal : Goal) → length x.facts < 2 ^ 32
    → c ≡ CasesClose lit first second → b1 ≡ first.value → b2 ≡ second.value → z ≡ state_with_facts (with_fact x.facts lit) x → HaveFew before (script_of b1) z goal → after ≡ state_with_facts (with_fact x.facts (negation lit)) x → HaveFew before (script_of b2) after goal
    → HaveFew before (close_script c) x goal
cases_few before c lit first second b1 b2 x z after goal all is at1 at2 begun few1 back few2 =
    let one = state_with_facts (with_fact x.facts lit) x in
    let two = state_with_facts (with_fact x.facts (negation lit)) x in
    ap (λ d. list_all has_few (steps_in_state before d x goal)) (ap close_script is ∙ close_script-Cases lit first second)
    ∙ ap (list_all has_few) (cases_lines before lit (script_of first.value) (script_of second.value) x goal)
    ∙ ap₂ {A = Bool} {B = Bool} (λ a b. a && b) (few_first x all)
    (all_both has_few (steps_in_state before (script_of first.value) one goal) (steps_in_state before (script_of second.value) two goal)
    (subst (λ b. HaveFew before (script_of b) one goal) at1 (subst (λ q. HaveFew before (script_of b1) q goal) begun few1)) (subst (λ b. HaveFew before (script_of b) two goal) at2 (subst (λ q. HaveFew before (script_of b2) q goal) back few2)))

pub cases_ready : (before : List StatementView) (c : Close) (lit : Lit) (first second : Box Block Global) (x : StepState) (goal : Goal) → c ≡ CasesClose lit first second → IsReady before (close_script c) x goal
    → IsReady before (script_of first.value) (state_with_facts (with_fact x.facts lit) x) goal × IsReady before (script_of second.value) (state_with_facts (with_fact x.facts (negation lit)) x) goal
cases_ready before c lit first second x goal is r =
    let d : Script = Cases lit (script_of first.value) (script_of second.value) in
    both_ready before d x goal (steps_in_state before (script_of first.value) (state_with_facts (with_fact x.facts lit) x) goal) (steps_in_state before (script_of second.value) (state_with_facts (with_fact x.facts (negation lit)) x) goal) (cases_lines before lit (script_of first.value) (script_of second.value) x goal)
    (subst (λ e. IsReady before e x goal) (ap close_script is ∙ close_script-Cases lit first second) r)

pub block_ready : (before : List StatementView) (block : Block) (inner : Box Block Global) (y z : StepState) (goal : Goal) → block ≡ inner.value → z ≡ y → IsReady before (script_of inner.value) y goal → IsReady before (script_of block) z goal
block_ready before block inner y z goal at begun r = subst (λ b. IsReady before (script_of b) z goal) (sym at) (subst (λ w. IsReady before (script_of inner.value) w goal) (sym begun) r)

-- ---- the steps of a block

pub steps_go_on : (before : List StatementView) (items seen : List Step) (close whole : Script) (i : ℕ) (step s : Step) (done pushed : List Step) (y z : StepState) (goal : Goal) → seen ≡ items → i < length seen → step ≡ get_or seen i step
    → IsNumberedStep before (step_script step) y (step_script s) z → pushed ≡ done ++ s ∷ [] → steps_script done (places_at before (steps_script (drop i items) close) y goal) ≡ whole
    → steps_script pushed (places_at before (steps_script (drop (i + 1) items) close) z goal) ≡ whole
steps_go_on before items seen close whole i step s done pushed y z goal same lt is h push e =
    let rest = steps_script (drop (i + 1) items) close in
    ap (λ xs. steps_script xs (places_at before rest z goal)) push
    ∙ steps_script-append done (s ∷ []) (places_at before rest z goal)
    ∙ ap (steps_script done) (sym (h.same rest goal) ∙ sym (ap (λ d. places_at before d y goal) (steps_at items seen close i step same lt is)))
    ∙ e

pub few_go_on : (before : List StatementView) (items seen : List Step) (close whole : Script) (i : ℕ) (step s : Step) (x y z : StepState) (goal : Goal) → seen ≡ items → i < length seen → step ≡ get_or seen i step → length y.facts < 2 ^ 32
    → IsNumberedStep before (step_script step) y (step_script s) z → (HaveFew before (steps_script (drop i items) close) y goal → HaveFew before whole x goal)
    → HaveFew before (steps_script (drop (i + 1) items) close) z goal → HaveFew before whole x goal
few_go_on before items seen close whole i step s x y z goal same lt is all h e k =
    e (subst (λ d. HaveFew before d y goal) (sym (steps_at items seen close i step same lt is)) (h.few all (steps_script (drop (i + 1) items) close) goal k))

pub step_ready : (before : List StatementView) (items seen : List Step) (close : Script) (i : ℕ) (step : Step) (y : StepState) (goal : Goal) → seen ≡ items → i < length seen → step ≡ get_or seen i step
    → IsReady before (steps_script (drop i items) close) y goal → AreReady before (step_script step) y
step_ready before items seen close i step y goal same lt is r =
    record { rest = steps_script (drop (i + 1) items) close; goal = goal; ready = subst (λ d. IsReady before d y goal) (steps_at items seen close i step same lt is) r }

pub next_ready : (before : List StatementView) (items seen : List Step) (close : Script) (i : ℕ) (step s : Step) (y z : StepState) (goal : Goal) → seen ≡ items → i < length seen → step ≡ get_or seen i step
    → IsNumberedStep before (step_script step) y (step_script s) z → IsReady before (steps_script (drop i items) close) y goal → IsReady before (steps_script (drop (i + 1) items) close) z goal
next_ready before items seen close i step s y z goal same lt is h r =
    h.ready (steps_script (drop (i + 1) items) close) goal (subst (λ d. IsReady before d y goal) (steps_at items seen close i step same lt is) r)
