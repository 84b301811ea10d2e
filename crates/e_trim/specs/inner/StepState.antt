-- What holds before a step, as the code keeps it, and what a script is that the code walks through.
use Rattle.std.specs.Prelude.{◌≡◌, ℕ, ◌+◌, ◌<◌, ◌≤◌, List, ◌++◌, length, take, Bool, Option, IsTrue}
use Rattle.std.specs.List.{list_all}
use Rattle.e_literal.specs.declared.object.Obj.{Obj}
use Rattle.e_literal.specs.declared.object.Scope.{Scope}
use Rattle.e_literal.specs.declared.object.Sort.{Sort}
use Rattle.e_literal.specs.declared.literal.Lit.{Lit}
use Rattle.e_literal.specs.Facts.{with_facts}
use Rattle.e_literal.specs.Scopes.{with_sorts}
use Rattle.e_literal.specs.Use.{StatementView, scope_of, are_arguments}
use Rattle.e_deriv.specs.Goal.{Goal, facts_of_statement}
use Rattle.e_deriv.specs.Script.{Script, step_script, close_script}
use Rattle.e_deriv.specs.PlacedSteps.{placed_steps, theorem_at}
use Rattle.e_deriv.specs.Steps.{fits, fits_at}
use Rattle.e_deriv.specs.declared.block.Step.{Step}
use Rattle.e_deriv.specs.declared.block.Close.{Close}
use Rattle.e_deriv.specs.Fitting.{is_small}
use Rattle.e_deriv.specs.Parts.{args_of, args_written}
use Rattle.e_trim.specs.Looked.{Wants, both, of_step}
use Rattle.e_trim.specs.Trimmed.{joins_at, makes_at, is_kept, as_step, wants_with_step}
use Rattle.e_trim.specs.inner.Flags.{flag, inside_of, step_flags}
use Rattle.e_trim.specs.declared.step_state.StepState.{StepState}
use Rattle.e_trim.specs.declared.step_state.Checkpoint.{Checkpoint}

-- before the first step of a statement's proof
abbrev pub start_of : StatementView → StepState
start_of t = record { scope = scope_of t; facts = facts_of_statement t }

abbrev pub checkpoint_of : StepState → Checkpoint
checkpoint_of x = record { scope = x.scope; facts = length x.facts }

-- where a block was entered
abbrev pub state_at : Checkpoint → StepState → StepState
state_at outer x = record { scope = outer.scope; facts = take outer.facts x.facts }

-- with objects of these sorts in scope, and these literals for facts
abbrev pub state_with : List Sort → List Lit → StepState → StepState
state_with sorts lits x = record { scope = with_sorts x.scope sorts; facts = with_facts x.facts lits }

-- each step fits, and at most 1,000 objects of each sort are in scope before it
pub record IsReady (before : List StatementView) (d : Script) (s : Scope) (facts : List Lit)
    (goal : Goal) : Type 0 where
  pub forms : IsTrue (list_all (fits before) (placed_steps before d d s facts goal))
  pub scopes : IsTrue (list_all (λ x. is_small x.scope) (placed_steps before d d s facts goal))

-- after a step
abbrev pub state_after : List StatementView → Script → StepState → StepState
state_after before here x = state_with (makes_at before here) (joins_at before here x.scope) x

-- with something after it and some goal the step fits
pub record StepFits (before : List StatementView) (step : Step) (s : Scope) : Type 0 where
  pub rest : Script
  pub goal : Goal
  pub fits :
      IsTrue (fits_at before (step_script step rest) s goal (args_of (step_script step rest)))

-- the close fits
abbrev pub CloseFits : Close → Scope → Goal → Type 0
CloseFits close s goal =
    (before : List StatementView)
    → IsTrue (fits_at before (close_script close) s goal (args_of (close_script close)))

-- the theorem is one of those before, and the arguments that are written fit it
pub record IsApplied (before : List StatementView) (theorem : ℕ) (args : List (Option Obj))
    (s : Scope) : Type 0 where
  pub place : theorem < length before
  pub fit : IsTrue (are_arguments (theorem_at before theorem) s (args_written args))

-- with something after it and some goal the step is ready
pub record IsReadyToTrim (before : List StatementView) (step : Step) (x : StepState) : Type 0 where
  pub rest : Script
  pub goal : Goal
  pub ready : IsReady before (step_script step rest) x.scope x.facts goal

-- a kept step adds this to what is wanted, whatever comes after it
abbrev pub StepWants : List StatementView → Step → StepState → Wants → Wants → Type 0
StepWants before step x old new =
    (rest : Script) (goal : Goal) →
    new ≡ both old (both (of_step before (as_step (step_script step rest) x.scope x.facts goal))
    (inside_of before (step_script step rest) x.scope x.facts))

-- and these flags to the pile
abbrev pub StepFlags : List StatementView → Step → StepState → List Bool → List Bool → Type 0
StepFlags before step x old new =
    (rest : Script) → new ≡ old ++ step_flags before (step_script step rest) x.scope x.facts

-- a step adds what it wants to what is wanted after it, if it is kept
abbrev pub StepAdds : List StatementView → Step → StepState → Wants → Wants → Type 0
StepAdds before step x old new =
    (rest : Script) (goal : Goal) → new ≡ wants_with_step before (step_script step rest) x.scope
    x.facts goal (inside_of before (step_script step rest) x.scope x.facts) old

-- and its flag to the pile, where this is wanted after it
abbrev pub FlagsAdded : List StatementView → Step → StepState → Wants → List Bool
    → List Bool → Type 0
FlagsAdded before step x w old new =
    (rest : Script) → new ≡ old ++ flag (is_kept before (step_script step rest) x.scope x.facts w)
    (step_flags before (step_script step rest) x.scope x.facts)

-- the facts from before are the first ones still
abbrev pub KeepsFacts : StepState → StepState → Type 0
KeepsFacts x after = take (length x.facts) after.facts ≡ x.facts

-- at most as many objects are kept as are in scope
abbrev pub FewKept : Scope → List Obj → Type 0
FewKept s kept = length kept ≤ s.points + (s.lines + s.circles)
