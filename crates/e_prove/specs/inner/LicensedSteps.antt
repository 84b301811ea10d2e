-- What it is to license a step, or a close, in its place: whatever comes after it.
use Rattle.std.specs.Prelude.{◌≡◌, List, ◌∷◌, Bool, IsTrue}
use Rattle.std.specs.List.{list_all}
use Rattle.e_literal.specs.Use.{StatementView}
use Rattle.e_deriv.specs.declared.block.Step.{Step}
use Rattle.e_deriv.specs.declared.block.Close.{Close}
use Rattle.e_deriv.specs.Script.{Script, step_script, close_script, bare_script}
use Rattle.e_deriv.specs.Parts.{filled_by}
use Rattle.e_deriv.specs.Goal.{Goal}
use Rattle.e_deriv.specs.PlacedSteps.{PlacedStep, placed_step, placed_steps}
use Rattle.e_deriv.specs.Naming.{names_of_steps}
use Rattle.e_deriv.specs.Licensed.{Licensed, AllLicensed}
use Rattle.e_deriv.specs.Certified.{is_certified}
use Rattle.e_deriv.specs.Fitting.{fits_with_blanks}
use Rattle.e_clause.specs.declared.cert.Version.TheVariants as version
use Rattle.e_deriv.specs.Versions.{has_certs_of}
use Rattle.e_licence.specs.Contexts.{Basis}
use Rattle.e_prove.specs.declared.state_before.StateBefore.{StateBefore}
use Rattle.e_prove.specs.declared.stop_reason.StopReason.{StopReason}
use Rattle.e_prove.specs.inner.StopsOfSteps.{StepStopsAt}

-- the steps of `script` with its blanks filled as in `filled`, where `x` has the objects in scope
-- and the facts
abbrev pub steps_from_basis : List StatementView → Script → Script → Basis → Goal → List PlacedStep
steps_from_basis before script filled x goal =
    placed_steps before script filled x.scope x.facts goal

-- the first of them
abbrev pub step_from_basis : Script → Script → Basis → Goal → PlacedStep
step_from_basis script filled x goal = placed_step script filled x.scope x.facts goal

-- the placed step `y` fits, whatever its blanks are filled with
abbrev pub fits_here : List StatementView → PlacedStep → Bool
fits_here before y = fits_with_blanks before y y.here

-- Where the step fits at state `x` it is licensed, with its blanks filled as in `derived`, and
-- `derived` is certified. Without certificates `derived` is the step with its blanks filled. Its
-- certificates cite facts by literals, which are well formed. State `after` holds after the step.
pub record IsLicensedStep (before : List StatementView) (step : Step) (x : StateBefore)
    (derived : Step) (after : StateBefore) : Type 0 where
  pub licensed : (rest more : Script) (goal : Goal) →
      IsTrue (fits_here before
      (step_from_basis (step_script step rest) (step_script derived more) x.context goal)) →
      Licensed before
      (step_from_basis (step_script step rest) (step_script derived more) x.context goal)
  pub certified : (rest more : Script) (goal : Goal) →
      IsTrue (fits_here before
      (step_from_basis (step_script step rest) (step_script derived more) x.context goal)) →
      IsTrue (is_certified before
      (step_from_basis (step_script derived more) (step_script derived more) x.context goal))
  pub erased : (rest more : Script)
      → bare_script more ≡ filled_by (bare_script rest) more →
      bare_script (step_script derived more)
      ≡ filled_by (bare_script (step_script step rest)) (step_script derived more)
  pub version : (more : Script) → IsTrue (has_certs_of version.One more)
      → IsTrue (has_certs_of version.One (step_script derived more))
  pub next : (rest more : Script) (goal : Goal) →
      steps_from_basis before (step_script step rest) (step_script derived more) x.context goal
      ≡ step_from_basis (step_script step rest) (step_script derived more) x.context goal
      ∷ steps_from_basis before rest more after.context goal
  pub derived_next : (more : Script) (goal : Goal) →
      steps_from_basis before (step_script derived more) (step_script derived more) x.context goal
      ≡ step_from_basis (step_script derived more) (step_script derived more) x.context goal
      ∷ steps_from_basis before more more after.context goal
  pub named : (rest : Script) → names_of_steps before x.names (step_script step rest)
      ≡ x.names ∷ names_of_steps before after.names rest
  pub kept : after.context.held ≡ x.context.held

-- at state `x` licensing stops by `h` at the step, however its blanks are filled
abbrev pub IsStopOfStep : List StatementView → Step → StateBefore → StopReason → Type 0
IsStopOfStep before step x h =
    (rest filled : Script) (goal : Goal)
    → StepStopsAt before (step_from_basis (step_script step rest) filled x.context goal) h

-- At state `x` the close is licensed, and `derived` is certified, by certificates that cite facts
-- by literals, which are well formed. Without certificates the two are the same.
pub record IsLicensedClose (before : List StatementView) (close : Close) (x : Basis) (goal : Goal)
    (derived : Close) : Type 0 where
  pub licensed : AllLicensed before
      (steps_from_basis before (close_script close) (close_script derived) x goal)
  pub certified : IsTrue (list_all (is_certified before)
      (steps_from_basis before (close_script derived) (close_script derived) x goal))
  pub erased : bare_script (close_script derived)
      ≡ filled_by (bare_script (close_script close)) (close_script derived)
  pub version : IsTrue (has_certs_of version.One (close_script derived))

-- at state `x` licensing stops by `h` at the close
abbrev pub IsStopOfClose : List StatementView → Close → Basis → Goal → StopReason → Type 0
IsStopOfClose before close x goal h =
    (filled : Script) → StepStopsAt before (step_from_basis (close_script close) filled x goal) h
