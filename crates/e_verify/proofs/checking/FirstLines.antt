-- The first line of a script, and the lines after it.
use Rattle.std.proofs.Common.{◌≡◌, ℕ, List, [], ◌∷◌, ◌++◌, refl, sym, ap, ◌∙◌, subst, Bool, true, Option}
use Rattle.e_literal.specs.declared.object.Obj.{Obj}
use Rattle.e_literal.specs.declared.literal.Lit.{Lit}
use Rattle.e_literal.specs.Literal.{negation}
use Rattle.e_literal.specs.Facts.{with_fact, with_facts}
use Rattle.e_literal.specs.Scopes.{with_sorts}
use Rattle.e_literal.specs.Use.{StatementView, gives_of_use}
use Rattle.e_clause.specs.declared.cert.Against.{Against}
use Rattle.e_clause.specs.declared.cert.By.{By}
use Rattle.e_clause.specs.declared.cert.Cert.{Cert}
use Rattle.e_construct.specs.declared.construction.Construction.{Construction}
use Rattle.e_construct.specs.declared.superpose.Superpose.{Superpose}
use Rattle.e_construct.specs.Construct.{sorts_made, gives_of_construction}
use Rattle.e_deriv.specs.Script.{Script, Cite, Hence, Make, Apply, Claim, Superposed, Qed, Contradiction, Cases}
use Rattle.e_deriv.specs.Goal.{Goal, goal_of}
use Rattle.e_deriv.specs.PlacedSteps.{PlacedStep, placed_steps, theorem_at}
use Rattle.e_deriv.specs.Parts.{args_written}
use Rattle.e_deriv.specs.Certified.{is_certified}
use Rattle.e_verify.specs.declared.step_state.StepState.{StepState}
use Rattle.e_verify.specs.StepStates.{state_with_facts, state_after_make, state_after_superposed}
use Rattle.e_verify.specs.Checking.{step_in_state, steps_in_state, IsChecked, KeepsFirstFacts}
use Rattle.e_verify.proofs.checking.FormedFacts.{all_formed}

pub cite_lines : (before : List StatementView) (by : By) (x : StepState) (rest : Script) (goal : Goal)
    → steps_in_state before (Cite by rest) x goal ≡ step_in_state (Cite by rest) x goal ∷ steps_in_state before rest (state_with_facts (with_fact x.facts by.lit) x) goal
unfolding placed_steps
cite_lines before by x rest goal = refl

pub hence_lines : (before : List StatementView) (lit : Lit) (cert : Option Cert) (x : StepState) (rest : Script) (goal : Goal)
    → steps_in_state before (Hence lit cert rest) x goal ≡ step_in_state (Hence lit cert rest) x goal ∷ steps_in_state before rest (state_with_facts (with_fact x.facts lit) x) goal
unfolding placed_steps
hence_lines before lit cert x rest goal = refl

-- after a construction
pub make_lines : (before : List StatementView) (construction : Construction) (names : List (List ℕ)) (certs : List Cert) (x : StepState) (rest : Script) (goal : Goal)
    → steps_in_state before (Make construction names certs rest) x goal ≡ step_in_state (Make construction names certs rest) x goal ∷ steps_in_state before rest (state_after_make construction x) goal
unfolding placed_steps
make_lines before construction names certs x rest goal = refl

-- after an application
abbrev pub after_apply : StatementView → List Obj → StepState → StepState
after_apply t args x = record { scope = with_sorts x.scope t.made; facts = with_facts x.facts (gives_of_use t args x.scope) }

pub apply_lines : (before : List StatementView) (theorem : ℕ) (args : List (Option Obj)) (names : List (List ℕ)) (certs : List Cert) (x : StepState) (rest : Script) (goal : Goal)
    → steps_in_state before (Apply theorem args names certs rest) x goal ≡ step_in_state (Apply theorem args names certs rest) x goal ∷ steps_in_state before rest (after_apply (theorem_at before theorem) (args_written args) x) goal
unfolding placed_steps
apply_lines before theorem args names certs x rest goal = refl

pub claim_lines : (before : List StatementView) (shown : List Lit) (inner : Script) (x : StepState) (rest : Script) (goal : Goal)
    → steps_in_state before (Claim shown inner rest) x goal
    ≡ step_in_state (Claim shown inner rest) x goal ∷ (steps_in_state before inner x (goal_of shown) ++ steps_in_state before rest (state_with_facts (with_facts x.facts shown) x) goal)
unfolding placed_steps
claim_lines before shown inner x rest goal = refl

pub superposed_lines : (before : List StatementView) (superposition : Superpose) (names : List (List ℕ)) (shown : List Lit) (certs : List Cert) (inner : Script) (x : StepState) (rest : Script) (goal : Goal)
    → steps_in_state before (Superposed superposition names shown certs inner rest) x goal
    ≡ step_in_state (Superposed superposition names shown certs inner rest) x goal ∷ (steps_in_state before inner (state_after_superposed superposition x) (goal_of shown) ++ steps_in_state before rest (state_with_facts (with_facts x.facts shown) x) goal)
unfolding placed_steps
superposed_lines before superposition names shown certs inner x rest goal = refl

pub qed_lines : (before : List StatementView) (objects : List Obj) (certs : List Cert) (x : StepState) (goal : Goal) → steps_in_state before (Qed objects certs) x goal ≡ step_in_state (Qed objects certs) x goal ∷ []
unfolding placed_steps
qed_lines before objects certs x goal = refl

pub contradiction_lines : (before : List StatementView) (against : Option Against) (x : StepState) (goal : Goal) → steps_in_state before (Contradiction against) x goal ≡ step_in_state (Contradiction against) x goal ∷ []
unfolding placed_steps
contradiction_lines before against x goal = refl

pub cases_lines : (before : List StatementView) (lit : Lit) (first second : Script) (x : StepState) (goal : Goal)
    → steps_in_state before (Cases lit first second) x goal
    ≡ step_in_state (Cases lit first second) x goal ∷ (steps_in_state before first (state_with_facts (with_fact x.facts lit) x) goal ++ steps_in_state before second (state_with_facts (with_fact x.facts (negation lit)) x) goal)
unfolding placed_steps
cases_lines before lit first second x goal = refl

-- each script has a first line
pub some_lines : (before : List StatementView) (d : Script) (x : StepState) (goal : Goal) → (ys : List PlacedStep) × (steps_in_state before d x goal ≡ step_in_state d x goal ∷ ys)
unfolding placed_steps
some_lines before (Cite by rest) x goal = (_, refl)
some_lines before (Hence lit cert rest) x goal = (_, refl)
some_lines before (Make construction names certs rest) x goal = (_, refl)
some_lines before (Apply theorem args names certs rest) x goal = (_, refl)
some_lines before (Claim shown inner rest) x goal = (_, refl)
some_lines before (Superposed superposition names shown certs inner rest) x goal = (_, refl)
some_lines before (Qed objects certs) x goal = (_, refl)
some_lines before (Contradiction against) x goal = (_, refl)
some_lines before (Cases lit first second) x goal = (_, refl)

pub checked : (before : List StatementView) (whole : Script → Script) (x y after : StepState) (b : Bool) → ((rest : Script) (goal : Goal) → b ≡ is_certified before (step_in_state (whole rest) x goal))
    → ((rest : Script) (goal : Goal) → steps_in_state before (whole rest) x goal ≡ step_in_state (whole rest) x goal ∷ steps_in_state before rest y goal) → KeepsFirstFacts x y
    → (all_formed x.facts ≡ true → all_formed y.facts ≡ true) → after ≡ y → IsChecked before whole x after b
checked before whole x y after b t l k f e =
    record { test = t; next = λ h rest goal. l rest goal ∙ ap (λ z. step_in_state (whole rest) x goal ∷ steps_in_state before rest z goal) (sym e); kept = λ h. subst (KeepsFirstFacts x) (sym e) k; formed = λ h g. ap (λ (z : StepState). all_formed z.facts) e ∙ f g }
