-- What it is to put places into a step that is certified, with the block inside it.
use Rattle.std.specs.Prelude.{◌≡◌, ℕ, ◌<◌, ◌^◌, List, length, Bool, ◌&&◌, IsTrue, nat_lt, Option}
use Rattle.std.specs.List.{list_all}
use Rattle.e_literal.specs.declared.object.Obj.{Obj}
use Rattle.e_literal.specs.Use.{StatementView, are_arguments}
use Rattle.e_deriv.specs.Script.{Script}
use Rattle.e_deriv.specs.Goal.{Goal}
use Rattle.e_deriv.specs.PlacedSteps.{PlacedStep, theorem_at}
use Rattle.e_deriv.specs.Parts.{has_no_blank, args_written}
use Rattle.e_deriv.specs.Certified.{is_certified}
use Rattle.e_deriv.specs.Fitting.{is_small}
use Rattle.e_verify.specs.declared.step_state.StepState.{StepState}
use Rattle.e_verify.specs.Checking.{steps_in_state, KeepsFirstFacts}
use Rattle.e_places.specs.Numbered.{with_places}

-- the script with places, where this holds before it
abbrev pub places_at : List StatementView → Script → StepState → Goal → Script
places_at before d x goal = with_places before d x.scope x.facts goal

-- the step is certified, and at most 1,000 objects of each sort are in scope before it
abbrev pub is_ready : List StatementView → PlacedStep → Bool
is_ready before y = is_certified before y && is_small y.scope

-- so it is with each step of the script
abbrev pub IsReady : List StatementView → Script → StepState → Goal → Type 0
IsReady before d x goal = IsTrue (list_all (is_ready before) (steps_in_state before d x goal))

-- with something after them and some goal the steps are so
pub record AreReady (before : List StatementView) (whole : Script → Script)
    (x : StepState) : Type 0 where
  pub rest : Script
  pub goal : Goal
  pub ready : IsReady before (whole rest) x goal

-- the theorem is one of those before, and the arguments have no blank and fit it
pub record IsApplied (before : List StatementView) (theorem : ℕ) (args : List (Option Obj))
    (x : StepState) : Type 0 where
  pub place : theorem < length before
  pub blank : IsTrue (has_no_blank args)
  pub fit : IsTrue (are_arguments (theorem_at before theorem) x.scope (args_written args))

-- each fact before the step has a place of 32 bits
abbrev pub has_few : PlacedStep → Bool
has_few y = nat_lt (length y.facts) (2 ^ 32)

-- so it is before each step
abbrev pub HaveFew : List StatementView → Script → StepState → Goal → Type 0
HaveFew before d x goal = IsTrue (list_all has_few (steps_in_state before d x goal))

-- the step has its places, whatever comes after it, where this held before it; now that holds, and
-- what comes after it is ready if all was
pub record IsNumberedStep (before : List StatementView) (whole : Script → Script) (x : StepState)
    (placed : Script → Script) (after : StepState) : Type 0 where
  pub same : (rest : Script) (goal : Goal)
      → places_at before (whole rest) x goal ≡ placed (places_at before rest after goal)
  pub few : length x.facts < 2 ^ 32 → (rest : Script) (goal : Goal) → HaveFew before rest after goal
      → HaveFew before (whole rest) x goal
  pub ready : (rest : Script) (goal : Goal) → IsReady before (whole rest) x goal
      → IsReady before rest after goal
  pub kept : KeepsFirstFacts x after
