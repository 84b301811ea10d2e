-- What the form of a step or of a close says of its parts.
use Rattle.std.proofs.Common.{◌≡◌, ℕ, zero, suc, ◌+◌, ◌<◌, ◌≤◌, ◌^◌, List, [], ◌∷◌, length, get_or, refl, sym, ap, ◌∙◌, arith, true, ltb, Option, Some, Result, Ok, Err, OnOk, Box, Global}
use Rattle.std.specs.Prelude.{unwrap_or}
use Rattle.std.specs.Option.{option_map}
use Rattle.std.specs.List.{list_all}
use Rattle.std.proofs.lemmas.Bool.{and_parts, ltb-true}
use Rattle.std.proofs.lemmas.Grind.{common_steps}
use Rattle.std.proofs.lemmas.List.{length-map}
use Rattle.std.proofs.lemmas.Option.{slice_get-map, slice_get-get_or}
use Rattle.e_literal.specs.declared.object.Obj.{Obj}
use Rattle.e_literal.specs.declared.object.Scope.{Scope}
use Rattle.e_literal.specs.declared.object.Sort.{Sort}
use Rattle.e_literal.specs.declared.literal.Lit.{Lit}
use Rattle.e_literal.specs.Use.{StatementView, are_arguments, gives_of_use}
use Rattle.e_literal.proofs.Booleans.{and_left, and_right}
use Rattle.e_construct.specs.declared.construction.Construction.{Construction}
use Rattle.e_construct.specs.declared.superpose.Superpose.{Superpose}
use Rattle.e_construct.specs.Construct.{sorts_made, gives_of_construction}
use Rattle.e_clause.specs.declared.cert.Against.{Against}
use Rattle.e_clause.specs.declared.cert.By.{By}
use Rattle.e_clause.specs.declared.cert.Cert.{Cert}
use Rattle.e_theorem.specs.declared.statement.Statement.{Statement}
use Rattle.e_theorem.specs.Statements.{as_view, as_views}
use Rattle.e_theorem.specs.Choice.{fills, is_choice}
use Rattle.e_deriv.specs.declared.block.Block.{Block}
use Rattle.e_deriv.specs.declared.block.Close.{Close}
use Rattle.e_deriv.specs.declared.block.Close.TheVariants.{Qed as QedClose, Contradiction as ContradictionClose, Cases as CasesBlock}
use Rattle.e_deriv.specs.declared.block.Step.{Step}
use Rattle.e_deriv.specs.declared.block.Step.TheVariants.{Cite as CiteStep, Hence as HenceStep, Make as MakeStep, Apply as ApplyStep, Claim as ClaimBlock, Superposed as SuperposedBlock}
use Rattle.e_deriv.specs.Script.{Script, Cite, Hence, Make, Apply, Claim, Superposed, Qed, Contradiction, Cases, step_script, close_script, script_of}
use Rattle.e_deriv.specs.Goal.{Goal}
use Rattle.e_deriv.specs.PlacedSteps.{theorem_at, no_statement}
use Rattle.e_deriv.specs.Parts.{args_written}
use Rattle.e_deriv.specs.Fitting.{is_small, is_small_statement}
use Rattle.e_deriv.proofs.Smallness.{few_of_small, few_objects}
use Rattle.e_deriv.proofs.Scripts.{scripts, step_script-Claim, step_script-Superposed, close_script-Cases}
use Rattle.e_trim.specs.Looked.{Wants, both, of_step}
use Rattle.e_trim.specs.Trimmed.{joins_at, makes_at, as_step}
use Rattle.e_trim.specs.inner.StepState.{StepFits, CloseFits, IsApplied}
use Rattle.e_trim.proofs.renumbering.Pairs.{sorts}
use Rattle.e_trim.proofs.renumbering.FormsOfSteps.{sorts_are}
use Rattle.e_trim.proofs.kept_scripts.BuiltSteps.{few_makes}

pub apply_fits : (before : List StatementView) (theorem : ℕ) (args : List (Option Obj)) (names : List (List ℕ)) (certs : List Cert) (s : Scope) → StepFits before (ApplyStep theorem args names certs) s → IsApplied before theorem args s
unfolding step_script
apply_fits before theorem args names certs s r =
    let p = and_parts (ltb theorem (length before)) (is_choice (theorem_at before theorem) s args (args_written args)) r.fits in
    let q = and_parts (fills args (args_written args)) (are_arguments (theorem_at before theorem) s (args_written args)) p.1 in
    record { place = ltb-true theorem (length before) p.0; fit = q.1 }

pub qed_sorts : (objects : List Obj) (certs : List Cert) (s : Scope) (goal : Goal) → CloseFits (QedClose objects certs) s goal → sorts goal.made ≡ sorts objects
unfolding close_script
qed_sorts objects certs s goal h = sorts_are s (sorts goal.made) objects (h [])

-- ---- what a step makes

pub nothing_at : (before : List StatementView) (k : ℕ) → length before ≤ k → theorem_at before k ≡ no_statement
nothing_at [] k h = refl
nothing_at (t ∷ before) zero h = absurd (omega (arith, h))
nothing_at (t ∷ before) (suc k) h = nothing_at before k (omega (arith, h))

pub made_by_form : (before : List StatementView) (step : Step) (construction : Construction) (names : List (List ℕ)) (certs : List Cert) (rest : Script) → step ≡ MakeStep construction names certs → makes_at before (step_script step rest) ≡ sorts_made construction
unfolding step_script
made_by_form before step construction names certs rest is = ap (λ s. makes_at before (step_script s rest)) is

pub made_by_theorem : (before : List StatementView) (step : Step) (theorem : ℕ) (args : List (Option Obj)) (names : List (List ℕ)) (certs : List Cert) (rest : Script) → step ≡ ApplyStep theorem args names certs
    → makes_at before (step_script step rest) ≡ (theorem_at before theorem).made
unfolding step_script
made_by_theorem before step theorem args names certs rest is = ap (λ s. makes_at before (step_script s rest)) is

pub theorem_there : (before : List Statement) (theorem : ℕ) (t : Statement) → theorem < length before → t ≡ get_or before theorem t → theorem_at (as_views before) theorem ≡ as_view t
theorem_there before theorem t low at =
    ap (λ o. unwrap_or o no_statement) (slice_get-map as_view before theorem ∙ ap (option_map as_view) (slice_get-get_or before theorem t low ∙ ap Some (sym at)))

pub all_as_many : (before : List Statement) → length (as_views before) ≡ length before
all_as_many before = length-map before as_view

-- ---- an application

small_at : (before : List StatementView) (k : ℕ) → list_all is_small_statement before ≡ true → k < length before → is_small_statement (theorem_at before k) ≡ true
small_at [] k h l = absurd (omega (arith, l))
small_at (t ∷ before) zero h l = and_left (is_small_statement t) (list_all is_small_statement before) h
small_at (t ∷ before) (suc k) h l = small_at before k (and_right (is_small_statement t) (list_all is_small_statement before) h) (omega (arith, l))

-- the objects of a use have numbers of 16 bits
pub use_room : (before : List Statement) (theorem : ℕ) (t : Statement) (s : Scope) → is_small s ≡ true → list_all is_small_statement (as_views before) ≡ true → theorem < length before → t ≡ get_or before theorem t
    → (length t.declared + length t.made < 2 ^ 16) × (s.points + length t.made < 2 ^ 16) × (s.lines + length t.made < 2 ^ 16) × (s.circles + length t.made < 2 ^ 16)
use_room before theorem t s small all low at =
    let there = theorem_there before theorem t low at in
    let many = all_as_many before in
    let own = ap is_small_statement (sym there) ∙ small_at (as_views before) theorem all (omega (arith, many, low)) in
    let n = few_objects (as_view t) own in
    let f = few_of_small s small in
    (omega (arith, n), omega (arith, f.points, n), omega (arith, f.lines, n), omega (arith, f.circles, n))

pub few_sorts : (before : List StatementView) (step : Step) (sorts : List Sort) → list_all is_small_statement before ≡ true → ((rest : Script) → sorts ≡ makes_at before (step_script step rest)) → length sorts < 2 ^ 15
few_sorts before step sorts h e =
    let rest = Qed [] [] in
    let same = ap length (e rest) in
    let n = few_makes before step rest h in
    omega (arith, same, n)

-- ---- what a step makes facts

pub cite_joins : (before : List StatementView) (step : Step) (by : By) (rest : Script) (s : Scope) → step ≡ CiteStep by → joins_at before (step_script step rest) s ≡ by.lit ∷ []
unfolding step_script
cite_joins before step by rest s is = ap (λ x. joins_at before (step_script x rest) s) is

pub hence_joins : (before : List StatementView) (step : Step) (lit : Lit) (cert : Option Cert) (rest : Script) (s : Scope) → step ≡ HenceStep lit cert → joins_at before (step_script step rest) s ≡ lit ∷ []
unfolding step_script
hence_joins before step lit cert rest s is = ap (λ x. joins_at before (step_script x rest) s) is

pub make_joins : (before : List StatementView) (step : Step) (construction : Construction) (names : List (List ℕ)) (certs : List Cert) (rest : Script) (s : Scope) → step ≡ MakeStep construction names certs → joins_at before (step_script step rest) s ≡ gives_of_construction construction s
unfolding step_script
make_joins before step construction names certs rest s is = ap (λ x. joins_at before (step_script x rest) s) is

pub apply_joins : (before : List StatementView) (step : Step) (theorem : ℕ) (args : List (Option Obj)) (names : List (List ℕ)) (certs : List Cert) (rest : Script) (s : Scope) → step ≡ ApplyStep theorem args names certs
    → joins_at before (step_script step rest) s ≡ gives_of_use (theorem_at before theorem) (args_written args) s
unfolding step_script
apply_joins before step theorem args names certs rest s is = ap (λ x. joins_at before (step_script x rest) s) is

pub claim_joins : (before : List StatementView) (step : Step) (shown : List Lit) (inner : Box Block Global) (rest : Script) (s : Scope) → step ≡ ClaimBlock shown inner → joins_at before (step_script step rest) s ≡ shown
claim_joins before step shown inner rest s is = ap (λ x. joins_at before (step_script x rest) s) is ∙ ap (λ d. joins_at before d s) (step_script-Claim shown inner rest)

pub superposed_joins : (before : List StatementView) (step : Step) (superposition : Superpose) (names : List (List ℕ)) (shown : List Lit) (certs : List Cert) (inner : Box Block Global) (rest : Script) (s : Scope) → step ≡ SuperposedBlock superposition names shown certs inner
    → joins_at before (step_script step rest) s ≡ shown
superposed_joins before step superposition names shown certs inner rest s is =
    ap (λ x. joins_at before (step_script x rest) s) is ∙ ap (λ d. joins_at before d s) (step_script-Superposed superposition names shown certs inner rest)

-- ---- the script of a step, by its form

pub cite_script : (step : Step) (by : By) (rest : Script) → step ≡ CiteStep by → Cite by rest ≡ step_script step rest
unfolding step_script
cite_script step by rest is = sym (ap (λ x. step_script x rest) is)

pub hence_script : (step : Step) (lit : Lit) (cert : Option Cert) (rest : Script) → step ≡ HenceStep lit cert → Hence lit cert rest ≡ step_script step rest
unfolding step_script
hence_script step lit cert rest is = sym (ap (λ x. step_script x rest) is)

pub make_script : (step : Step) (construction : Construction) (names : List (List ℕ)) (certs cs : List Cert) (rest : Script) → step ≡ MakeStep construction names certs → cs ≡ certs → Make construction names cs rest ≡ step_script step rest
unfolding step_script
make_script step construction names certs cs rest is e = ap (λ x. Make construction names x rest) e ∙ sym (ap (λ x. step_script x rest) is)

pub apply_script : (step : Step) (theorem : ℕ) (args as' : List (Option Obj)) (names : List (List ℕ)) (certs cs : List Cert) (rest : Script) → step ≡ ApplyStep theorem args names certs → as' ≡ args → cs ≡ certs → Apply theorem as' names cs rest ≡ step_script step rest
unfolding step_script
apply_script step theorem args as' names certs cs rest is f e = ap (λ x. Apply theorem x names cs rest) f ∙ ap (λ x. Apply theorem args names x rest) e ∙ sym (ap (λ x. step_script x rest) is)

pub claim_script : (step : Step) (shown : List Lit) (inner : Box Block Global) (rest : Script) → step ≡ ClaimBlock shown inner → Claim shown (script_of inner.value) rest ≡ step_script step rest
claim_script step shown inner rest is = sym (ap (λ x. step_script x rest) is ∙ step_script-Claim shown inner rest)

pub superposed_script : (step : Step) (superposition : Superpose) (names : List (List ℕ)) (shown ls : List Lit) (certs cs : List Cert) (inner : Box Block Global) (rest : Script) → step ≡ SuperposedBlock superposition names shown certs inner → ls ≡ shown → cs ≡ certs
    → Superposed superposition names ls cs (script_of inner.value) rest ≡ step_script step rest
superposed_script step superposition names shown ls certs cs inner rest is f e =
    ap (λ x. Superposed superposition names x cs (script_of inner.value) rest) f ∙ ap (λ x. Superposed superposition names shown x (script_of inner.value) rest) e
    ∙ sym (ap (λ x. step_script x rest) is ∙ step_script-Superposed superposition names shown certs inner rest)

pub qed_script : (close : Close) (objects os : List Obj) (certs cs : List Cert) → close ≡ QedClose objects certs → os ≡ objects → cs ≡ certs → Qed os cs ≡ close_script close
unfolding close_script
qed_script close objects os certs cs is f e = ap (λ x. Qed x cs) f ∙ ap (Qed objects) e ∙ sym (ap close_script is)

pub contradiction_script : (close : Close) (against : Option Against) → close ≡ ContradictionClose against → Contradiction against ≡ close_script close
unfolding close_script
contradiction_script close against is = sym (ap close_script is)

pub cases_script : (close : Close) (lit : Lit) (first second : Box Block Global) → close ≡ CasesBlock lit first second → Cases lit (script_of first.value) (script_of second.value) ≡ close_script close
cases_script close lit first second is = sym (ap close_script is ∙ close_script-Cases lit first second)

-- ---- what a step wants, by its form

abbrev pub LineIs : List StatementView → Script → Scope → List Lit → Goal → Wants → Wants → Type 0
LineIs before d s facts goal old new = new ≡ both old (of_step before (as_step d s facts goal))

pub same_line : (before : List StatementView) (c d : Script) (s : Scope) (facts : List Lit) (goal : Goal) (old new : Wants) → c ≡ d → LineIs before c s facts goal old new → LineIs before d s facts goal old new
same_line before c d s facts goal old new e h = h ∙ ap (λ x. both old (of_step before (as_step x s facts goal))) e

pub and_so : {T E : Type 0} {P Q : Type 0} (r : Result T E) → (P → Q) → OnOk r P → OnOk r Q
and_so (Ok x) f h = f h
and_so (Err e) f h = tt

pub none_there : (before : List Statement) (k : ℕ) → length before ≤ k → theorem_at (as_views before) k ≡ no_statement
none_there before k h = let n = all_as_many before in nothing_at (as_views before) k (omega (arith, n, h))

pub ruleset by_step = (common_steps, scripts)
