-- What it is to check the steps of a script one after another, with the blocks inside it.
use Rattle.std.specs.Prelude.{◌≡◌, ℕ, ◌+◌, ◌<◌, ◌^◌, List, ◌∷◌, length, take, Bool, IsTrue, Result}
use Rattle.std.specs.Prelude.{Err}
use Rattle.std.specs.List.{list_all}
use Rattle.e_literal.specs.WellFormed.{is_well_formed}
use Rattle.e_literal.specs.Use.{StatementView}
use Rattle.e_deriv.specs.declared.block.Step.{Step}
use Rattle.e_deriv.specs.Script.{Script, step_script, size}
use Rattle.e_deriv.specs.Goal.{Goal}
use Rattle.e_deriv.specs.PlacedSteps.{PlacedStep, placed_step, placed_steps, first_failure}
use Rattle.e_deriv.specs.Certified.{is_certified}
use Rattle.e_deriv.specs.Fitting.{is_small}
use Rattle.e_verify.specs.declared.reject.Reject.{Reject}
use Rattle.e_verify.specs.declared.reject.Reject.TheVariants.{Bad, NoMemory}
use Rattle.e_verify.specs.declared.step_state.StepState.{StepState}
use Rattle.e_deriv.specs.Written.{is_written_well}

-- the script's first step, and all its steps, where `x` is the state before it
abbrev pub step_in_state : Script → StepState → Goal → PlacedStep
step_in_state d x goal = placed_step d d x.scope x.facts goal

abbrev pub steps_in_state : List StatementView → Script → StepState → Goal → List PlacedStep
steps_in_state before d x goal = placed_steps before d d x.scope x.facts goal

-- `Err` of the number of the script's first step that is not certified, or `Ok` of the number after
-- the last, where the first has number `first`
abbrev pub verdict_at : List StatementView → Script → StepState → Goal → ℕ → Result ℕ ℕ
verdict_at before d x goal first =
    first_failure (is_certified before) (steps_in_state before d x goal) first

-- `Bad` comes exactly at the first step that is not certified, and `NoMemory` may come anywhere
abbrev pub RejectIs : Result ℕ ℕ → Reject → Type 0
RejectIs verdict (Bad step) = verdict ≡ Err step
RejectIs verdict NoMemory = Unit {0}

-- IsVerifiable, carried along inside a block: the literals of the script, of the facts and of the
-- goal are well formed, at most 1,000 objects of each sort are in scope before each step, and there
-- are numbers for all steps
pub record IsCheckable (before : List StatementView) (d : Script) (x : StepState) (goal : Goal)
    (first : ℕ) : Type 0 where
  pub written : IsTrue (is_written_well d)
  pub scopes : IsTrue (list_all (λ y. is_small y.scope) (steps_in_state before d x goal))
  pub facts : IsTrue (list_all is_well_formed x.facts)
  pub shown : IsTrue (list_all is_well_formed goal.shown)
  pub few : first + size d < 2 ^ 32

-- `whole` puts some steps before a rest. There are a rest and a goal for which the whole can be
-- checked from state `x`, where its first step has number `first`.
pub record AreCheckableBeforeSome (before : List StatementView) (whole : Script → Script)
    (x : StepState) (first : ℕ) : Type 0 where
  pub rest : Script
  pub goal : Goal
  pub ready : IsCheckable before (whole rest) x goal first

-- the same of one step
abbrev pub IsCheckableStep : List StatementView → Step → StepState → ℕ → Type 0
IsCheckableStep before step x first = AreCheckableBeforeSome before (step_script step) x first

-- the facts of `after` begin with those of `x`
abbrev pub KeepsFirstFacts : StepState → StepState → Type 0
KeepsFirstFacts x after = take (length x.facts) after.facts ≡ x.facts

-- `whole` puts one step before a rest. From state `x` it is certified or is not, whatever the rest.
-- Where it is, state `after` holds after it, and well-formed facts stay well formed.
pub record IsChecked (before : List StatementView) (whole : Script → Script) (x after : StepState)
    (certified : Bool) : Type 0 where
  pub test : (rest : Script) (goal : Goal)
      → certified ≡ is_certified before (step_in_state (whole rest) x goal)
  pub next : IsTrue certified → (rest : Script) (goal : Goal)
      → steps_in_state before (whole rest) x goal
      ≡ step_in_state (whole rest) x goal ∷ steps_in_state before rest after goal
  pub kept : IsTrue certified → KeepsFirstFacts x after
  pub formed : IsTrue certified → IsTrue (list_all is_well_formed x.facts)
      → IsTrue (list_all is_well_formed after.facts)

-- `whole` puts some steps before a rest. Checking these steps has led from state `x`, where the
-- first has number `first`, to state `after` and number `next`; so the verdict on a rest from there
-- is that on the whole.
pub record AreVerified (before : List StatementView) (whole : Script → Script) (x : StepState)
    (first : ℕ) (after : StepState) (next : ℕ) : Type 0 where
  pub ready : (rest : Script) (goal : Goal) → IsCheckable before (whole rest) x goal first
      → IsCheckable before rest after goal next
  pub same : (rest : Script) (goal : Goal)
      → verdict_at before (whole rest) x goal first ≡ verdict_at before rest after goal next
  pub kept : KeepsFirstFacts x after

-- `e` is the verdict on the steps that `whole` puts before a rest, whatever the rest
abbrev pub RejectsInSteps : List StatementView → (Script → Script) → StepState → ℕ → Reject → Type 0
RejectsInSteps before whole x first e =
    (rest : Script) (goal : Goal) → RejectIs (verdict_at before (whole rest) x goal first) e

-- the same of one step
abbrev pub RejectsInStep : List StatementView → Step → StepState → ℕ → Reject → Type 0
RejectsInStep before step x first e = RejectsInSteps before (step_script step) x first e
