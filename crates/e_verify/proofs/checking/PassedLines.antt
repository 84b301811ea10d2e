-- Lines that are checked one after another, with the blocks inside.
use Rattle.std.proofs.Common.{◌≡◌, ℕ, suc, ◌+◌, List, [], ◌∷◌, ◌++◌, length, refl, sym, ap, ◌∙◌, subst, arith, Bool, true, false, ◌&&◌, Option, Result, Ok, Err}
use Rattle.std.specs.Prelude.{IsTrue, IsFalse, IfOk, IfErr, if◌then◌else◌}
use Rattle.std.specs.List.{list_all}
use Rattle.std.proofs.lemmas.List.Folds.{list_all-append}
use Rattle.std.specs.Option.{option_map_or}
use Rattle.e_literal.specs.declared.object.Obj.{Obj}
use Rattle.e_literal.specs.declared.literal.Lit.{Lit}
use Rattle.e_literal.specs.Literal.{negation, all_in_scope}
use Rattle.e_literal.specs.Facts.{with_fact, with_facts}
use Rattle.e_literal.specs.Use.{StatementView}
use Rattle.e_literal.specs.WellFormed.{is_well_formed}
use Rattle.e_literal.proofs.Booleans.{and_left, and_right}
use Rattle.e_clause.specs.declared.cert.Against.{Against}
use Rattle.e_clause.specs.declared.cert.By.{By}
use Rattle.e_clause.specs.declared.cert.Cert.{Cert}
use Rattle.e_construct.specs.declared.construction.Construction.{Construction}
use Rattle.e_construct.specs.declared.superpose.Superpose.{Superpose}
use Rattle.e_deriv.specs.declared.block.Step.{Step}
use Rattle.e_deriv.specs.Script.{Script, Cite, Hence, Make, Apply, Claim, Superposed, Qed, Contradiction, Cases, step_script, size}
use Rattle.e_deriv.specs.Goal.{Goal, goal_of}
use Rattle.e_deriv.specs.PlacedSteps.{PlacedStep, first_failure}
use Rattle.e_deriv.specs.Steps.{are_over}
use Rattle.e_deriv.specs.Certified.{is_certified}
use Rattle.e_deriv.specs.Fitting.{is_small}
use Rattle.e_deriv.proofs.Scripts.{size-Cite, size-Hence, size-Make, size-Apply, size-Claim, size-Superposed, size-Cases}
use Rattle.e_deriv.proofs.Stops.{lines_length}
use Rattle.e_verify.specs.declared.reject.Reject.{Reject}
use Rattle.e_verify.specs.declared.reject.Reject.TheVariants.{Bad, NoMemory}
use Rattle.e_verify.specs.declared.step_state.StepState.{StepState}
use Rattle.e_verify.specs.StepStates.{state_with_facts, state_after_superposed}
use Rattle.e_clause.specs.Written.{is_writable_cert, is_writable_against}
use Rattle.e_deriv.specs.Written.{is_written_well}
use Rattle.e_verify.specs.Checking.{step_in_state, steps_in_state, verdict_at, RejectIs, IsCheckable, IsChecked, AreVerified, RejectsInStep}
use Rattle.e_verify.proofs.checking.FirstLines.{some_lines, claim_lines, superposed_lines, cases_lines}
use Rattle.e_deriv.proofs.Keeping.{stay_all}
use Rattle.e_construct.specs.Superposing as superposing
use Rattle.e_verify.proofs.checking.FormedFacts.{joined_formed, all_joined_formed, superposed_gives_formed}

-- ---- the first failure

abbrev fine : ℕ → Result ℕ ℕ
fine n = Ok n

abbrev bad : ℕ → Result ℕ ℕ
bad n = Err n

ok_is : (n m : ℕ) → fine n ≡ fine m → n ≡ m
ok_is n m e = cc

not_ok : (n m : ℕ) → bad n ≡ fine m → ⊥
not_ok n m e = cc

not_err : (n m : ℕ) → fine n ≡ bad m → ⊥
not_err n m e = cc

pub pass_one : (p : PlacedStep → Bool) (x : PlacedStep) (xs : List PlacedStep) (n : ℕ) → p x ≡ true → first_failure p (x ∷ xs) n ≡ first_failure p xs (n + 1)
pass_one p x xs n h = ap (λ b. if b then first_failure p xs (n + 1) else Err n) h

pub fail_one : (p : PlacedStep → Bool) (x : PlacedStep) (xs : List PlacedStep) (n : ℕ) → p x ≡ false → first_failure p (x ∷ xs) n ≡ Err n
fail_one p x xs n h = ap (λ b. if b then first_failure p xs (n + 1) else Err n) h

pub pass_all : (p : PlacedStep → Bool) (xs ys : List PlacedStep) (n m : ℕ) → first_failure p xs n ≡ Ok m → first_failure p (xs ++ ys) n ≡ first_failure p ys m
pass_all p [] ys n m e = ap (first_failure p ys) (ok_is n m e)
pass_all p (x ∷ xs) ys n m e = by (p x) e (pass_all p xs ys (n + 1) m)
  where
    by : (b : Bool) → (if b then first_failure p xs (n + 1) else Err n) ≡ Ok m → (first_failure p xs (n + 1) ≡ Ok m → first_failure p (xs ++ ys) (n + 1) ≡ first_failure p ys m)
        → (if b then first_failure p (xs ++ ys) (n + 1) else Err n) ≡ first_failure p ys m
    by true e f = f e
    by false e f = absurd (not_ok n m e)

fail_all : (p : PlacedStep → Bool) (xs ys : List PlacedStep) (n k : ℕ) → first_failure p xs n ≡ Err k → first_failure p (xs ++ ys) n ≡ Err k
fail_all p [] ys n k e = absurd (not_err n k e)
fail_all p (x ∷ xs) ys n k e = by (p x) e (fail_all p xs ys (n + 1) k)
  where
    by : (b : Bool) → (if b then first_failure p xs (n + 1) else Err n) ≡ Err k → (first_failure p xs (n + 1) ≡ Err k → first_failure p (xs ++ ys) (n + 1) ≡ Err k)
        → (if b then first_failure p (xs ++ ys) (n + 1) else Err n) ≡ Err k
    by true e f = f e
    by false e f = e

count : (p : PlacedStep → Bool) (xs : List PlacedStep) (n m : ℕ) → first_failure p xs n ≡ Ok m → m ≡ n + length xs
count p [] n m e = omega (arith, ok_is n m e)
count p (x ∷ xs) n m e = by (p x) e (count p xs (n + 1) m)
  where
    by : (b : Bool) → (if b then first_failure p xs (n + 1) else Err n) ≡ Ok m → (first_failure p xs (n + 1) ≡ Ok m → m ≡ n + 1 + length xs) → m ≡ n + suc (length xs)
    by true e f = omega (arith, f e)
    by false e f = absurd (not_ok n m e)

pub all_pass : (p : PlacedStep → Bool) (xs : List PlacedStep) (n m : ℕ) → first_failure p xs n ≡ Ok m → list_all p xs ≡ true
all_pass p [] n m e = refl
all_pass p (x ∷ xs) n m e = by (p x) e (all_pass p xs (n + 1) m)
  where
    by : (b : Bool) → (if b then first_failure p xs (n + 1) else Err n) ≡ Ok m → (first_failure p xs (n + 1) ≡ Ok m → list_all p xs ≡ true) → (b && list_all p xs) ≡ true
    by true e f = f e
    by false e f = absurd (not_ok n m e)

pub reject_all : (p : PlacedStep → Bool) (xs ys : List PlacedStep) (n : ℕ) (e : Reject) → RejectIs (first_failure p xs n) e → RejectIs (first_failure p (xs ++ ys) n) e
reject_all p xs ys n (Bad k) h = fail_all p xs ys n k h
reject_all p xs ys n NoMemory h = tt

pub reject_as : (v w : Result ℕ ℕ) (e : Reject) → v ≡ w → RejectIs w e → RejectIs v e
reject_as v w e is h = subst (λ r. RejectIs r e) (sym is) h

pub size_of : (before : List StatementView) (d : Script) (x : StepState) (goal : Goal) (n m : ℕ) → verdict_at before d x goal n ≡ Ok m → m ≡ n + size d
size_of before d x goal n m e = count (is_certified before) (steps_in_state before d x goal) n m e ∙ ap (λ k. n + k) (lines_length before d d x.scope x.facts goal)

-- ---- scopes

abbrev is_small_line : PlacedStep → Bool
is_small_line y = is_small y.scope

rest_small : (y : PlacedStep) (ys all : List PlacedStep) → all ≡ y ∷ ys → list_all is_small_line all ≡ true → list_all is_small_line ys ≡ true
rest_small y ys all e h = and_right (is_small_line y) (list_all is_small_line ys) (subst (λ zs. list_all is_small_line zs ≡ true) e h)

first_small : (y : PlacedStep) (ys all : List PlacedStep) → all ≡ y ∷ ys → list_all is_small_line all ≡ true → is_small_line y ≡ true
first_small y ys all e h = and_left (is_small_line y) (list_all is_small_line ys) (subst (λ zs. list_all is_small_line zs ≡ true) e h)

left_small : (ys zs : List PlacedStep) → list_all is_small_line (ys ++ zs) ≡ true → list_all is_small_line ys ≡ true
left_small ys zs h = and_left (list_all is_small_line ys) (list_all is_small_line zs) (sym (list_all-append is_small_line ys zs) ∙ h)

right_small : (ys zs : List PlacedStep) → list_all is_small_line (ys ++ zs) ≡ true → list_all is_small_line zs ≡ true
right_small ys zs h = and_right (list_all is_small_line ys) (list_all is_small_line zs) (sym (list_all-append is_small_line ys zs) ∙ h)

pub scope_small : (before : List StatementView) (d : Script) (x : StepState) (goal : Goal) (n : ℕ) → IsCheckable before d x goal n → is_small x.scope ≡ true
scope_small before d x goal n r = let l = some_lines before d x goal in first_small (step_in_state d x goal) l.0 (steps_in_state before d x goal) l.1 r.scopes

-- ---- what is written well

pub cite_written : (by : By) (rest : Script) → is_written_well (Cite by rest) ≡ true → (is_well_formed by.lit ≡ true) × (is_written_well rest ≡ true)
unfolding is_written_well
cite_written by rest h = (and_left (is_well_formed by.lit) (is_written_well rest) h, and_right (is_well_formed by.lit) (is_written_well rest) h)

pub hence_written : (lit : Lit) (cert : Option Cert) (rest : Script) → is_written_well (Hence lit cert rest) ≡ true → (is_well_formed lit ≡ true) × (option_map_or is_writable_cert cert true ≡ true) × (is_written_well rest ≡ true)
unfolding is_written_well
hence_written lit cert rest h =
    let c = option_map_or is_writable_cert cert true in
    let k = and_right (is_well_formed lit) (c && is_written_well rest) h in
    (and_left (is_well_formed lit) (c && is_written_well rest) h, and_left c (is_written_well rest) k, and_right c (is_written_well rest) k)

pub make_written : (construction : Construction) (names : List (List ℕ)) (certs : List Cert) (rest : Script) → is_written_well (Make construction names certs rest) ≡ true → (list_all is_writable_cert certs ≡ true) × (is_written_well rest ≡ true)
unfolding is_written_well
make_written construction names certs rest h = (and_left (list_all is_writable_cert certs) (is_written_well rest) h, and_right (list_all is_writable_cert certs) (is_written_well rest) h)

pub apply_written : (theorem : ℕ) (args : List (Option Obj)) (names : List (List ℕ)) (certs : List Cert) (rest : Script) → is_written_well (Apply theorem args names certs rest) ≡ true → (list_all is_writable_cert certs ≡ true) × (is_written_well rest ≡ true)
unfolding is_written_well
apply_written theorem args names certs rest h = (and_left (list_all is_writable_cert certs) (is_written_well rest) h, and_right (list_all is_writable_cert certs) (is_written_well rest) h)

pub claim_written : (shown : List Lit) (inner rest : Script) → is_written_well (Claim shown inner rest) ≡ true → (list_all is_well_formed shown ≡ true) × (is_written_well inner ≡ true) × (is_written_well rest ≡ true)
unfolding is_written_well
claim_written shown inner rest h =
    let a = list_all is_well_formed shown in
    let b = is_written_well inner in
    let c = is_written_well rest in
    (and_left a (b && c) h, and_left b c (and_right a (b && c) h), and_right b c (and_right a (b && c) h))

pub superposed_written : (superposition : Superpose) (names : List (List ℕ)) (shown : List Lit) (certs : List Cert) (inner rest : Script) → is_written_well (Superposed superposition names shown certs inner rest) ≡ true
    → (list_all is_well_formed shown ≡ true) × (list_all is_writable_cert certs ≡ true) × (is_written_well inner ≡ true) × (is_written_well rest ≡ true)
unfolding is_written_well
superposed_written superposition names shown certs inner rest h =
    let a = list_all is_well_formed shown in
    let k = list_all is_writable_cert certs in
    let b = is_written_well inner in
    let c = is_written_well rest in
    let e = and_right a (k && (b && c)) h in
    let f = and_right k (b && c) e in
    (and_left a (k && (b && c)) h, and_left k (b && c) e, and_left b c f, and_right b c f)

pub qed_written : (objects : List Obj) (certs : List Cert) → is_written_well (Qed objects certs) ≡ true → list_all is_writable_cert certs ≡ true
unfolding is_written_well
qed_written objects certs h = h

pub contradiction_written : (against : Option Against) → is_written_well (Contradiction against) ≡ true → option_map_or is_writable_against against true ≡ true
unfolding is_written_well
contradiction_written against h = h

pub cases_written : (lit : Lit) (first second : Script) → is_written_well (Cases lit first second) ≡ true → (is_well_formed lit ≡ true) × (is_written_well first ≡ true) × (is_written_well second ≡ true)
unfolding is_written_well
cases_written lit first second h =
    let a = is_well_formed lit in
    let b = is_written_well first in
    let c = is_written_well second in
    (and_left a (b && c) h, and_left b c (and_right a (b && c) h), and_right b c (and_right a (b && c) h))

-- ---- a step that is one line

pub record IsLine (whole : Script → Script) : Type 0 where
  pub written : (rest : Script) → is_written_well (whole rest) ≡ true → is_written_well rest ≡ true
  pub size_is : (rest : Script) → size (whole rest) ≡ 1 + size rest

pub cite_line : (by : By) → IsLine (Cite by)
cite_line by = record { written = λ rest h. (cite_written by rest h).1; size_is = size-Cite by }

pub hence_line : (lit : Lit) (cert : Option Cert) → IsLine (Hence lit cert)
hence_line lit cert = record { written = λ rest h. (hence_written lit cert rest h).2; size_is = size-Hence lit cert }

pub make_line : (construction : Construction) (names : List (List ℕ)) (certs : List Cert) → IsLine (Make construction names certs)
make_line construction names certs = record { written = λ rest h. (make_written construction names certs rest h).1; size_is = size-Make construction names certs }

pub apply_line : (theorem : ℕ) (args : List (Option Obj)) (names : List (List ℕ)) (certs : List Cert) → IsLine (Apply theorem args names certs)
apply_line theorem args names certs = record { written = λ rest h. (apply_written theorem args names certs rest h).1; size_is = size-Apply theorem args names certs }

pub bad_line : (before : List StatementView) (d : Script) (x : StepState) (goal : Goal) (n : ℕ) → is_certified before (step_in_state d x goal) ≡ false → verdict_at before d x goal n ≡ Err n
bad_line before d x goal n h =
    let l = some_lines before d x goal in ap (λ xs. first_failure (is_certified before) xs n) l.1 ∙ fail_one (is_certified before) (step_in_state d x goal) l.0 n h

pub line_passed : (before : List StatementView) (step : Step) (whole : Script → Script) (x after : StepState) (n : ℕ) (b : Bool) (r : Result ℕ Reject) → ((rest : Script) → step_script step rest ≡ whole rest) → IsLine whole
    → IsChecked before whole x after b → IfOk r (λ next. IsTrue b × (next ≡ n + 1)) → IfOk r (λ next. AreVerified before (step_script step) x n after next)
line_passed before step whole x after n b (Err e) is line c h = tt
line_passed before step whole x after n b (Ok next) is line c h =
    record {
      ready = λ rest goal r.
          let q = subst (λ d. IsCheckable before d x goal n) (is rest) r in
          record {
            written = line.written rest q.written;
            scopes = rest_small (step_in_state (whole rest) x goal) (steps_in_state before rest after goal) (steps_in_state before (whole rest) x goal) (c.next h.0 rest goal) q.scopes;
            facts = c.formed h.0 q.facts;
            shown = q.shown;
            few = omega (arith, h.1, q.few, line.size_is rest);
          };
      same = λ rest goal.
          ap (λ d. verdict_at before d x goal n) (is rest)
          ∙ ap (λ xs. first_failure (is_certified before) xs n) (c.next h.0 rest goal)
          ∙ pass_one (is_certified before) (step_in_state (whole rest) x goal) (steps_in_state before rest after goal) n (sym (c.test rest goal) ∙ h.0)
          ∙ ap (first_failure (is_certified before) (steps_in_state before rest after goal)) (sym h.1);
      kept = c.kept h.0;
    }

pub line_rejected : (before : List StatementView) (step : Step) (whole : Script → Script) (x after : StepState) (n : ℕ) (b : Bool) (r : Result ℕ Reject) → ((rest : Script) → step_script step rest ≡ whole rest)
    → IsChecked before whole x after b → IfErr r (λ e. IsFalse b × (e ≡ Bad n)) → IfErr r (RejectsInStep before step x n)
line_rejected before step whole x after n b (Ok next) is c h = tt
line_rejected before step whole x after n b (Err e) is c h =
    λ rest goal.
    subst (RejectIs (verdict_at before (step_script step rest) x goal n)) (sym h.1)
    (ap (λ d. verdict_at before d x goal n) (is rest) ∙ bad_line before (whole rest) x goal n (sym (c.test rest goal) ∙ h.0))

-- ---- a close that is one line

pub close_certified : (before : List StatementView) (d : Script) (x : StepState) (goal : Goal) (n : ℕ) (b : Bool) (r : Result ℕ Reject) → steps_in_state before d x goal ≡ step_in_state d x goal ∷ [] → b ≡ is_certified before (step_in_state d x goal)
    → IfOk r (λ next. IsTrue b × (next ≡ n + 1)) → IfOk r (λ next. verdict_at before d x goal n ≡ Ok next)
close_certified before d x goal n b (Err e) one t h = tt
close_certified before d x goal n b (Ok next) one t h =
    ap (λ xs. first_failure (is_certified before) xs n) one ∙ pass_one (is_certified before) (step_in_state d x goal) [] n (sym t ∙ h.0) ∙ ap Ok (sym h.1)

pub close_rejected : (before : List StatementView) (d : Script) (x : StepState) (goal : Goal) (n : ℕ) (b : Bool) (r : Result ℕ Reject) → b ≡ is_certified before (step_in_state d x goal)
    → IfErr r (λ e. IsFalse b × (e ≡ Bad n)) → IfErr r (RejectIs (verdict_at before d x goal n))
close_rejected before d x goal n b (Ok next) t h = tt
close_rejected before d x goal n b (Err e) t h = subst (RejectIs (verdict_at before d x goal n)) (sym h.1) (bad_line before d x goal n (sym t ∙ h.0))

-- ---- a claim

pub claim_inner : (before : List StatementView) (shown : List Lit) (inner rest : Script) (x : StepState) (goal : Goal) (n : ℕ) → IsCheckable before (Claim shown inner rest) x goal n → IsCheckable before inner x (goal_of shown) (n + 1)
claim_inner before shown inner rest x goal n r =
    let w = claim_written shown inner rest r.written in
    let s = rest_small (step_in_state (Claim shown inner rest) x goal) _ (steps_in_state before (Claim shown inner rest) x goal) (claim_lines before shown inner x rest goal) r.scopes in
    record {
      written = w.1;
      scopes = left_small (steps_in_state before inner x (goal_of shown)) (steps_in_state before rest (state_with_facts (with_facts x.facts shown) x) goal) s;
      facts = r.facts;
      shown = w.0;
      few = omega (arith, r.few, size-Claim shown inner rest);
    }

pub passed_claim : (before : List StatementView) (shown : List Lit) (inner : Script) (x : StepState) (n m : ℕ) → are_over x.scope shown ≡ true → verdict_at before inner x (goal_of shown) (n + 1) ≡ Ok m
    → AreVerified before (Claim shown inner) x n (state_with_facts (with_facts x.facts shown) x) m
passed_claim before shown inner x n m h e =
    let after = state_with_facts (with_facts x.facts shown) x in
    let p = is_certified before in
    let A = steps_in_state before inner x (goal_of shown) in
    record {
      ready = λ rest goal r.
          let s = rest_small (step_in_state (Claim shown inner rest) x goal) _ (steps_in_state before (Claim shown inner rest) x goal) (claim_lines before shown inner x rest goal) r.scopes in
          record {
            written = (claim_written shown inner rest r.written).2;
            scopes = right_small A (steps_in_state before rest after goal) s;
            facts = all_joined_formed x.facts shown r.facts (claim_written shown inner rest r.written).0;
            shown = r.shown;
            few = omega (arith, r.few, size-Claim shown inner rest, size_of before inner x (goal_of shown) (n + 1) m e);
          };
      same = λ rest goal.
          let B = steps_in_state before rest after goal in
          ap (λ xs. first_failure p xs n) (claim_lines before shown inner x rest goal)
          ∙ pass_one p (step_in_state (Claim shown inner rest) x goal) (A ++ B) n (rw h refl)
          ∙ pass_all p A B (n + 1) m e;
      kept = stay_all x.facts shown;
    }

pub claim_rejected : (before : List StatementView) (shown : List Lit) (inner rest : Script) (x : StepState) (goal : Goal) (n : ℕ) (e : Reject) → are_over x.scope shown ≡ true
    → RejectIs (verdict_at before inner x (goal_of shown) (n + 1)) e → RejectIs (verdict_at before (Claim shown inner rest) x goal n) e
claim_rejected before shown inner rest x goal n e h k =
    let p = is_certified before in
    let A = steps_in_state before inner x (goal_of shown) in
    let B = steps_in_state before rest (state_with_facts (with_facts x.facts shown) x) goal in
    reject_as (verdict_at before (Claim shown inner rest) x goal n) (first_failure p (A ++ B) (n + 1)) e
    (ap (λ xs. first_failure p xs n) (claim_lines before shown inner x rest goal) ∙ pass_one p (step_in_state (Claim shown inner rest) x goal) (A ++ B) n (rw h refl))
    (reject_all p A B (n + 1) e k)

pub claim_bad : (before : List StatementView) (shown : List Lit) (inner rest : Script) (x : StepState) (goal : Goal) (n : ℕ) → are_over x.scope shown ≡ false → verdict_at before (Claim shown inner rest) x goal n ≡ Err n
claim_bad before shown inner rest x goal n h = bad_line before (Claim shown inner rest) x goal n (rw h refl)

-- ---- a superposition

pub superposed_inner : (before : List StatementView) (superposition : Superpose) (names : List (List ℕ)) (shown : List Lit) (certs : List Cert) (inner rest : Script) (x : StepState) (goal : Goal) (n : ℕ)
    → superposing.fits_superposition superposition x.scope ≡ true → IsCheckable before (Superposed superposition names shown certs inner rest) x goal n → IsCheckable before inner (state_after_superposed superposition x) (goal_of shown) (n + 1)
superposed_inner before superposition names shown certs inner rest x goal n fit r =
    let w = superposed_written superposition names shown certs inner rest r.written in
    let d = Superposed superposition names shown certs inner rest in
    let s = rest_small (step_in_state d x goal) _ (steps_in_state before d x goal) (superposed_lines before superposition names shown certs inner x rest goal) r.scopes in
    record {
      written = w.2;
      scopes = left_small (steps_in_state before inner (state_after_superposed superposition x) (goal_of shown)) (steps_in_state before rest (state_with_facts (with_facts x.facts shown) x) goal) s;
      facts = all_joined_formed x.facts (superposing.gives_of_superposition superposition x.scope) r.facts (superposed_gives_formed superposition x.scope fit);
      shown = w.0;
      few = omega (arith, r.few, size-Superposed superposition names shown certs inner rest);
    }

-- the superposition itself is certified, whatever its block is
abbrev pub IsHead : List StatementView → Superpose → List (List ℕ) → List Lit → List Cert → StepState → Bool → Type 0
IsHead before superposition names shown certs x b = (inner rest : Script) (goal : Goal) → b ≡ is_certified before (step_in_state (Superposed superposition names shown certs inner rest) x goal)

pub passed_superposed : (before : List StatementView) (superposition : Superpose) (names : List (List ℕ)) (shown : List Lit) (certs : List Cert) (inner : Script) (x : StepState) (n m : ℕ) → IsHead before superposition names shown certs x true
    → verdict_at before inner (state_after_superposed superposition x) (goal_of shown) (n + 1) ≡ Ok m → AreVerified before (Superposed superposition names shown certs inner) x n (state_with_facts (with_facts x.facts shown) x) m
passed_superposed before superposition names shown certs inner x n m h e =
    let after = state_with_facts (with_facts x.facts shown) x in
    let p = is_certified before in
    let A = steps_in_state before inner (state_after_superposed superposition x) (goal_of shown) in
    record {
      ready = λ rest goal r.
          let d = Superposed superposition names shown certs inner rest in
          let s = rest_small (step_in_state d x goal) _ (steps_in_state before d x goal) (superposed_lines before superposition names shown certs inner x rest goal) r.scopes in
          record {
            written = (superposed_written superposition names shown certs inner rest r.written).3;
            scopes = right_small A (steps_in_state before rest after goal) s;
            facts = all_joined_formed x.facts shown r.facts (superposed_written superposition names shown certs inner rest r.written).0;
            shown = r.shown;
            few = omega (arith, r.few, size-Superposed superposition names shown certs inner rest, size_of before inner (state_after_superposed superposition x) (goal_of shown) (n + 1) m e);
          };
      same = λ rest goal.
          let B = steps_in_state before rest after goal in
          ap (λ xs. first_failure p xs n) (superposed_lines before superposition names shown certs inner x rest goal)
          ∙ pass_one p (step_in_state (Superposed superposition names shown certs inner rest) x goal) (A ++ B) n (sym (h inner rest goal))
          ∙ pass_all p A B (n + 1) m e;
      kept = stay_all x.facts shown;
    }

pub superposed_rejected : (before : List StatementView) (superposition : Superpose) (names : List (List ℕ)) (shown : List Lit) (certs : List Cert) (inner rest : Script) (x : StepState) (goal : Goal) (n : ℕ) (e : Reject)
    → IsHead before superposition names shown certs x true → RejectIs (verdict_at before inner (state_after_superposed superposition x) (goal_of shown) (n + 1)) e → RejectIs (verdict_at before (Superposed superposition names shown certs inner rest) x goal n) e
superposed_rejected before superposition names shown certs inner rest x goal n e h k =
    let p = is_certified before in
    let A = steps_in_state before inner (state_after_superposed superposition x) (goal_of shown) in
    let B = steps_in_state before rest (state_with_facts (with_facts x.facts shown) x) goal in
    reject_as (verdict_at before (Superposed superposition names shown certs inner rest) x goal n) (first_failure p (A ++ B) (n + 1)) e
    (ap (λ xs. first_failure p xs n) (superposed_lines before superposition names shown certs inner x rest goal) ∙ pass_one p (step_in_state (Superposed superposition names shown certs inner rest) x goal) (A ++ B) n (sym (h inner rest goal)))
    (reject_all p A B (n + 1) e k)

-- ---- a split

pub cases_first : (before : List StatementView) (lit : Lit) (first second : Script) (x : StepState) (goal : Goal) (n : ℕ) → IsCheckable before (Cases lit first second) x goal n
    → IsCheckable before first (state_with_facts (with_fact x.facts lit) x) goal (n + 1)
cases_first before lit first second x goal n r =
    let w = cases_written lit first second r.written in
    let s = rest_small (step_in_state (Cases lit first second) x goal) _ (steps_in_state before (Cases lit first second) x goal) (cases_lines before lit first second x goal) r.scopes in
    record {
      written = w.1;
      scopes = left_small (steps_in_state before first (state_with_facts (with_fact x.facts lit) x) goal) (steps_in_state before second (state_with_facts (with_fact x.facts (negation lit)) x) goal) s;
      facts = joined_formed x.facts lit r.facts w.0;
      shown = r.shown;
      few = omega (arith, r.few, size-Cases lit first second);
    }

pub cases_second : (before : List StatementView) (lit : Lit) (first second : Script) (x : StepState) (goal : Goal) (n m : ℕ) → IsCheckable before (Cases lit first second) x goal n
    → verdict_at before first (state_with_facts (with_fact x.facts lit) x) goal (n + 1) ≡ Ok m → IsCheckable before second (state_with_facts (with_fact x.facts (negation lit)) x) goal m
cases_second before lit first second x goal n m r e =
    let w = cases_written lit first second r.written in
    let s = rest_small (step_in_state (Cases lit first second) x goal) _ (steps_in_state before (Cases lit first second) x goal) (cases_lines before lit first second x goal) r.scopes in
    record {
      written = w.2;
      scopes = right_small (steps_in_state before first (state_with_facts (with_fact x.facts lit) x) goal) (steps_in_state before second (state_with_facts (with_fact x.facts (negation lit)) x) goal) s;
      facts = joined_formed x.facts (negation lit) r.facts w.0;
      shown = r.shown;
      few = omega (arith, r.few, size-Cases lit first second, size_of before first (state_with_facts (with_fact x.facts lit) x) goal (n + 1) m e);
    }

pub cases_same : (before : List StatementView) (lit : Lit) (first second : Script) (x : StepState) (goal : Goal) (n m : ℕ) → all_in_scope x.scope lit ≡ true
    → verdict_at before first (state_with_facts (with_fact x.facts lit) x) goal (n + 1) ≡ Ok m
    → verdict_at before (Cases lit first second) x goal n ≡ verdict_at before second (state_with_facts (with_fact x.facts (negation lit)) x) goal m
cases_same before lit first second x goal n m h e =
    let p = is_certified before in
    let A = steps_in_state before first (state_with_facts (with_fact x.facts lit) x) goal in
    let B = steps_in_state before second (state_with_facts (with_fact x.facts (negation lit)) x) goal in
    ap (λ xs. first_failure p xs n) (cases_lines before lit first second x goal) ∙ pass_one p (step_in_state (Cases lit first second) x goal) (A ++ B) n (rw h refl) ∙ pass_all p A B (n + 1) m e

pub cases_rejected : (before : List StatementView) (lit : Lit) (first second : Script) (x : StepState) (goal : Goal) (n : ℕ) (e : Reject) → all_in_scope x.scope lit ≡ true
    → RejectIs (verdict_at before first (state_with_facts (with_fact x.facts lit) x) goal (n + 1)) e → RejectIs (verdict_at before (Cases lit first second) x goal n) e
cases_rejected before lit first second x goal n e h k =
    let p = is_certified before in
    let A = steps_in_state before first (state_with_facts (with_fact x.facts lit) x) goal in
    let B = steps_in_state before second (state_with_facts (with_fact x.facts (negation lit)) x) goal in
    reject_as (verdict_at before (Cases lit first second) x goal n) (first_failure p (A ++ B) (n + 1)) e
    (ap (λ xs. first_failure p xs n) (cases_lines before lit first second x goal) ∙ pass_one p (step_in_state (Cases lit first second) x goal) (A ++ B) n (rw h refl))
    (reject_all p A B (n + 1) e k)

pub cases_bad : (before : List StatementView) (lit : Lit) (first second : Script) (x : StepState) (goal : Goal) (n : ℕ) → all_in_scope x.scope lit ≡ false → verdict_at before (Cases lit first second) x goal n ≡ Err n
cases_bad before lit first second x goal n h = bad_line before (Cases lit first second) x goal n (rw h refl)
