-- What holds at a step of a theorem's script.
use Rattle.std.specs.Prelude.{◌≡◌, ℕ, ◌-◌, List, [], Some, slice_get}
use Rattle.e_literal.specs.Use.{StatementView}
use Rattle.e_deriv.specs.declared.names.Names.{Names}
use Rattle.e_deriv.specs.Script.{Script}
use Rattle.e_deriv.specs.PlacedSteps.{PlacedStep}
use Rattle.e_deriv.specs.Naming.{names_of_steps, declared_names}
use Rattle.e_deriv.specs.Licensed.{IsContext}
use Rattle.e_prove.specs.declared.state_before.StateBefore.{StateBefore}

-- All steps before step `n` are licensed, with their blanks filled by the least good choices; `p`
-- has the objects in scope before step `n` and the facts, with no state held, and the names of the
-- objects, where `names` are those of the statement's declared and made objects.
pub record IsStateBeforeStep (before : List StatementView) (t : StatementView) (names : Names)
    (script : Script) (n : ℕ) (p : StateBefore) : Type 0 where
  pub step : PlacedStep
  pub context : IsContext before t script n step
  pub scope : p.context.scope ≡ step.scope
  pub facts : p.context.facts ≡ step.facts
  pub held : p.context.held ≡ []
  pub named : Some p.names
      ≡ slice_get (names_of_steps before (declared_names t names) script) (n - 1)
