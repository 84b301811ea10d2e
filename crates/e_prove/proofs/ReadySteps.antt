-- What the steps that are ready say of a step, of a close, and of the whole.
use Rattle.std.proofs.Common.{◌≡◌, ℕ, zero, suc, ◌+◌, ◌<◌, ◌^◌, List, [], ◌∷◌, length, refl, sym, ap, subst, true, ltb, Option, arith, Box, Global, ltb-true}
use Rattle.std.proofs.Common.{get_or}
use Rattle.std.specs.List.{list_all}
use Rattle.std.proofs.lemmas.Bool.{and_from}
use Rattle.e_literal.specs.declared.object.Scope.{Scope}
use Rattle.e_literal.specs.declared.literal.Lit.{Lit}
use Rattle.e_literal.specs.Facts.{with_fact, with_facts}
use Rattle.e_literal.specs.declared.object.Obj.{Obj}
use Rattle.e_literal.specs.Scopes.{with_sorts}
use Rattle.e_literal.specs.Use.{StatementView, gives_of_use}
use Rattle.e_literal.proofs.Booleans.{and_left, and_right}
use Rattle.e_theorem.specs.Choice.{is_choice}
use Rattle.e_theorem.specs.Pattern.{is_pattern}
use Rattle.e_theorem.specs.declared.statement.Statement.{Statement}
use Rattle.e_theorem.specs.Statements.{as_view, as_views}
use Rattle.e_clause.specs.declared.cert.By.{By}
use Rattle.e_clause.specs.declared.cert.Cert.{Cert}
use Rattle.e_clause.specs.LimitedFacts.{is_well_formed_in, are_well_formed_in, are_limited_facts}
use Rattle.e_construct.specs.declared.construction.Construction.{Construction}
use Rattle.e_construct.specs.declared.superpose.Superpose.{Superpose}
use Rattle.e_construct.specs.Construct.{sorts_made, gives_of_construction, needs_of_construction}
use Rattle.e_deriv.specs.declared.block.Block.{Block}
use Rattle.e_deriv.specs.declared.block.Step.TheVariants.{Cite as CiteStep, Hence as HenceStep, Make as MakeStep, Apply as ApplyStep, Claim as ClaimStep, Superposed as SuperposedStep}
use Rattle.e_deriv.specs.Script.{Script, Cite, Hence, Make, Apply, Claim, Superposed, script_of, step_script, size}
use Rattle.e_deriv.specs.Goal.{Goal}
use Rattle.e_deriv.specs.Parts.{args_written, filled_in}
use Rattle.e_deriv.specs.PlacedSteps.{placed_steps, theorem_at}
use Rattle.e_deriv.specs.Fitting.{LitsFit, is_small, is_small_statement}
use Rattle.e_deriv.proofs.Choices.{written_again}
use Rattle.e_deriv.proofs.Scripts.{step_script-Claim, step_script-Superposed}
use Rattle.e_deriv.proofs.Smallness.{few_of_small}
use Rattle.e_prove.specs.declared.state_before.StateBefore.{StateBefore}
use Rattle.e_prove.specs.inner.NextStates.{HasRoomForMore, after_make, after_literal}
use Rattle.e_prove.specs.inner.LicensedSteps.{steps_from_basis, step_from_basis, fits_here}
use Rattle.e_prove.specs.inner.PassedSteps.{IsReadyFor, IsReadyStep}
use Rattle.e_prove.specs.inner.Applications.{LitsFitAt, CanApply}
use Rattle.e_prove.proofs.PassedSteps.{lines_begin, first_is}
use Rattle.e_prove.proofs.InnerBlocks.{ClaimReady, claim_ready, SuperposedReady, superposed_ready}

-- the facts that a script begins with are good
pub first_facts : (before : List StatementView) (here f : Script) (s : Scope) (facts : List Lit) (goal : Goal) → LitsFit before (placed_steps before here f s facts goal) → are_limited_facts s facts ≡ true
first_facts before here f s facts goal h =
    let begun = lines_begin before here f s facts goal in
    (subst (LitsFit before) begun.1 h).0

-- few objects are in scope before a script that is ready
pub first_scope : (before : List StatementView) (here : Script) (x : StateBefore) (goal : Goal) → IsReadyFor before here x goal → is_small x.context.scope ≡ true
first_scope before here x goal r =
    let begun = lines_begin before here here x.context.scope x.context.facts goal in
    first_is (λ y. is_small y.scope) (step_from_basis here here x.context goal) begun.0 (steps_from_basis before here here x.context goal) begun.1 r.scopes

pub room_of_small : (s : Scope) → is_small s ≡ true → HasRoomForMore s
room_of_small s h =
    let few = few_of_small s h in
    record { points = omega (arith, few.points); lines = omega (arith, few.lines); circles = omega (arith, few.circles) }

-- ---- steps that have no block inside

pub record LineReady (s : Scope) (needed : List Lit) (next : StateBefore) : Type 0 where
  pub needs : are_well_formed_in s needed ≡ true
  pub after : are_limited_facts next.context.scope next.context.facts ≡ true

-- the first step of a script that is ready has its form
fits_first : (before : List StatementView) (here : Script) (x : StateBefore) (goal : Goal) → IsReadyFor before here x goal → fits_here before (step_from_basis here here x.context goal) ≡ true
fits_first before here x goal r =
    let begun = lines_begin before here here x.context.scope x.context.facts goal in
    first_is (fits_here before) (step_from_basis here here x.context goal) begun.0 (steps_from_basis before here here x.context goal) begun.1 r.forms

cite_lits : (before : List StatementView) (by : By) (rest : Script) (x : StateBefore) (goal : Goal) → IsReadyFor before (Cite by rest) x goal → are_limited_facts x.context.scope (with_fact x.context.facts by.lit) ≡ true
unfolding placed_steps
cite_lits before by rest x goal r =
    let here = Cite by rest in
    first_facts before rest rest x.context.scope (with_fact x.context.facts by.lit) goal ((r.lits here).1 (fits_first before here x goal r)).1

pub cite_good : (before : List StatementView) (by : By) (x : StateBefore) (n : ℕ) → IsReadyStep before (CiteStep by) x n → are_limited_facts x.context.scope (with_fact x.context.facts by.lit) ≡ true
unfolding step_script
cite_good before by x n r = cite_lits before by r.rest x r.goal r.ready

hence_lits : (before : List StatementView) (lit : Lit) (cert : Option Cert) (rest : Script) (x : StateBefore) (goal : Goal) → IsReadyFor before (Hence lit cert rest) x goal → LineReady x.context.scope (lit ∷ []) (after_literal lit x)
unfolding placed_steps
hence_lits before lit cert rest x goal r =
    let here = Hence lit cert rest in
    let both = (r.lits here).1 (fits_first before here x goal r) in
    record { needs = both.0; after = first_facts before rest rest x.context.scope (with_fact x.context.facts lit) goal both.1 }

pub hence_good : (before : List StatementView) (lit : Lit) (cert : Option Cert) (x : StateBefore) (n : ℕ) → IsReadyStep before (HenceStep lit cert) x n → LineReady x.context.scope (lit ∷ []) (after_literal lit x)
unfolding step_script
hence_good before lit cert x n r = hence_lits before lit cert r.rest x r.goal r.ready

pub one_good : (s : Scope) (lit : Lit) → are_well_formed_in s (lit ∷ []) ≡ true → is_well_formed_in s lit ≡ true
one_good s lit h = and_left (is_well_formed_in s lit) true h

make_lits : (before : List StatementView) (construction : Construction) (names : List (List ℕ)) (certs : List Cert) (rest : Script) (x : StateBefore) (goal : Goal) → IsReadyFor before (Make construction names certs rest) x goal →
    LineReady x.context.scope (needs_of_construction construction) (after_make construction names x)
unfolding placed_steps
make_lits before construction names certs rest x goal r =
    let s = x.context.scope in
    let here = Make construction names certs rest in
    let both = (r.lits here).1 (fits_first before here x goal r) in
    record { needs = both.0; after = first_facts before rest rest (with_sorts s (sorts_made construction)) (with_facts x.context.facts (gives_of_construction construction s)) goal both.1 }

pub make_good : (before : List StatementView) (construction : Construction) (names : List (List ℕ)) (certs : List Cert) (x : StateBefore) (n : ℕ) → IsReadyStep before (MakeStep construction names certs) x n →
    LineReady x.context.scope (needs_of_construction construction) (after_make construction names x)
unfolding step_script
make_good before construction names certs x n r = make_lits before construction names certs r.rest x r.goal r.ready

pub make_room : (before : List StatementView) (construction : Construction) (names : List (List ℕ)) (certs : List Cert) (x : StateBefore) (n : ℕ) → IsReadyStep before (MakeStep construction names certs) x n → HasRoomForMore x.context.scope
make_room before construction names certs x n r = room_of_small x.context.scope (first_scope before (step_script (MakeStep construction names certs) r.rest) x r.goal r.ready)

-- ---- an application

small_among : (before : List StatementView) (k : ℕ) → list_all is_small_statement before ≡ true → k < length before → is_small_statement (theorem_at before k) ≡ true
small_among [] k h lt = absurd (omega (arith, lt))
small_among (t ∷ ts) zero h lt = and_left (is_small_statement t) (list_all is_small_statement ts) h
small_among (t ∷ ts) (suc k) h lt = small_among ts k (and_right (is_small_statement t) (list_all is_small_statement ts) h) (omega (arith, lt))

-- what the steps of an application say of it
pub record ApplyReady (before : List StatementView) (theorem : ℕ) (pattern : List (Option Obj)) (x : StateBefore) : Type 0 where
  pub place : theorem < length before
  pub can : CanApply (theorem_at before theorem) pattern x.context

apply_lits : (before : List StatementView) (theorem : ℕ) (pattern : List (Option Obj)) (names : List (List ℕ)) (certs : List Cert) (rest : Script) (x : StateBefore) (goal : Goal) →
    IsReadyFor before (Apply theorem pattern names certs rest) x goal → theorem < length before → (args : List Obj) →
    is_choice (theorem_at before theorem) x.context.scope pattern (args_written (filled_in args)) ≡ true → LitsFitAt (theorem_at before theorem) (args_written (filled_in args)) x.context
unfolding placed_steps
apply_lits before theorem pattern names certs rest x goal r lt args h =
    let t = theorem_at before theorem in
    let s = x.context.scope in
    let f = Apply theorem (filled_in args) names certs rest in
    let os = args_written (filled_in args) in
    let low : ltb theorem (length before) ≡ true = and_left (ltb theorem (length before)) (is_pattern t s pattern) (fits_first before (Apply theorem pattern names certs rest) x goal r) in
    let both = (r.lits f).1 (and_from (ltb theorem (length before)) (is_choice t s pattern os) low h) in
    record { needs = both.0; after = first_facts before rest rest (with_sorts s t.made) (with_facts x.context.facts (gives_of_use t os s)) goal both.1 }

apply_can : (before : List StatementView) (theorem : ℕ) (pattern : List (Option Obj)) (names : List (List ℕ)) (certs : List Cert) (rest : Script) (x : StateBefore) (goal : Goal) →
    IsReadyFor before (Apply theorem pattern names certs rest) x goal → ApplyReady before theorem pattern x
apply_can before theorem pattern names certs rest x goal r =
    let t = theorem_at before theorem in
    let s = x.context.scope in
    let here = Apply theorem pattern names certs rest in
    let form = fits_first before here x goal r in
    let lt = ltb-true theorem (length before) (and_left (ltb theorem (length before)) (is_pattern t s pattern) form) in
    record {
      place = lt;
      can = record {
        fits = and_right (ltb theorem (length before)) (is_pattern t s pattern) form;
        statement = small_among before theorem r.statements lt;
        scope = first_scope before here x goal r;
        lits = λ args h.
            subst (λ os. LitsFitAt t os x.context) (written_again args)
            (apply_lits before theorem pattern names certs rest x goal r lt args (subst (λ os. is_choice t s pattern os ≡ true) (sym (written_again args)) h));
      };
    }

pub apply_good : (before : List StatementView) (theorem : ℕ) (pattern : List (Option Obj)) (names : List (List ℕ)) (certs : List Cert) (x : StateBefore) (n : ℕ) → IsReadyStep before (ApplyStep theorem pattern names certs) x n →
    ApplyReady before theorem pattern x
unfolding step_script
apply_good before theorem pattern names certs x n r = apply_can before theorem pattern names certs r.rest x r.goal r.ready

-- the statement at a place
pub as_many : (statements : List Statement) → length (as_views statements) ≡ length statements
as_many [] = refl
as_many (t ∷ ts) = ap suc (as_many ts)

pub theorem_is : (statements : List Statement) (k : ℕ) (t : Statement) → k < length statements → t ≡ get_or statements k t → theorem_at (as_views statements) k ≡ as_view t
theorem_is [] k t lt e = absurd (omega (arith, lt))
theorem_is (s ∷ ss) zero t lt e = ap as_view (sym e)
theorem_is (s ∷ ss) (suc k) t lt e = theorem_is ss k t (omega (arith, lt)) e

-- ---- steps with a block inside

-- a block that is ready begins with good facts
pub block_facts : (before : List StatementView) (d : Script) (x : StateBefore) (goal : Goal) → IsReadyFor before d x goal → are_limited_facts x.context.scope x.context.facts ≡ true
block_facts before d x goal r = first_facts before d d x.context.scope x.context.facts goal (r.lits d)

pub claim_few : (shown : List Lit) (inner rest : Script) (n : ℕ) → n + size (Claim shown inner rest) < 2 ^ 32 → n + 1 + size inner < 2 ^ 32
unfolding size
claim_few shown inner rest n h = omega (arith, h)

pub claim_parts : (before : List StatementView) (shown : List Lit) (inner : Box Block Global) (x : StateBefore) (n : ℕ) → IsReadyStep before (ClaimStep shown inner) x n → ClaimReady before shown (script_of inner.value) x
claim_parts before shown inner x n r =
    claim_ready before shown (script_of inner.value) r.rest x r.goal (subst (λ d. IsReadyFor before d x r.goal) (step_script-Claim shown inner r.rest) r.ready)

pub claim_lines : (before : List StatementView) (shown : List Lit) (inner : Box Block Global) (x : StateBefore) (n : ℕ) → IsReadyStep before (ClaimStep shown inner) x n → n + 1 + size (script_of inner.value) < 2 ^ 32
claim_lines before shown inner x n r = claim_few shown (script_of inner.value) r.rest n (subst (λ d. n + size d < 2 ^ 32) (step_script-Claim shown inner r.rest) r.few)

pub superposed_few : (superposition : Superpose) (names : List (List ℕ)) (shown : List Lit) (certs : List Cert) (inner rest : Script) (n : ℕ) → n + size (Superposed superposition names shown certs inner rest) < 2 ^ 32 → n + 1 + size inner < 2 ^ 32
unfolding size
superposed_few superposition names shown certs inner rest n h = omega (arith, h)

pub superposed_parts : (before : List StatementView) (superposition : Superpose) (names : List (List ℕ)) (shown : List Lit) (certs : List Cert) (inner : Box Block Global) (x : StateBefore) (n : ℕ) →
    IsReadyStep before (SuperposedStep superposition names shown certs inner) x n → SuperposedReady before superposition names shown (script_of inner.value) x
superposed_parts before superposition names shown certs inner x n r =
    superposed_ready before superposition names shown certs (script_of inner.value) r.rest x r.goal (subst (λ d. IsReadyFor before d x r.goal) (step_script-Superposed superposition names shown certs inner r.rest) r.ready)

pub superposed_lines : (before : List StatementView) (superposition : Superpose) (names : List (List ℕ)) (shown : List Lit) (certs : List Cert) (inner : Box Block Global) (x : StateBefore) (n : ℕ) →
    IsReadyStep before (SuperposedStep superposition names shown certs inner) x n → n + 1 + size (script_of inner.value) < 2 ^ 32
superposed_lines before superposition names shown certs inner x n r =
    superposed_few superposition names shown certs (script_of inner.value) r.rest n (subst (λ d. n + size d < 2 ^ 32) (step_script-Superposed superposition names shown certs inner r.rest) r.few)
