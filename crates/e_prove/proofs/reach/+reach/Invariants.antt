use Rattle.std.proofs.Common.{List, ◌≤◌}
use Rattle.std.specs.Prelude.{take}
use Rattle.e_theorem.specs.Statements.{as_views}
use Rattle.e_deriv.specs.declared.block.Step.{Step}
use Rattle.e_deriv.specs.Script.{steps_script}
use Rattle.e_prove.specs.inner.PassedSteps.{IsPassed}
use Rattle.e_prove.proofs.reach.+reach.Given as goal

abbrev pub decreases-reach : goal.decreases-reach
decreases-reach l = goal.size-reach l

abbrev pub decreases-enter_close : goal.decreases-enter_close
decreases-enter_close l = goal.size-enter_close l

abbrev pub decreases-enter_step : goal.decreases-enter_step
decreases-enter_step l = goal.size-enter_step l

abbrev pub invariant-reach-loop-step : goal.invariant-reach-loop-step
invariant-reach-loop-step l =
    record {
      done : List Step;
      passed : IsPassed (as_views l.before) (steps_script (take l.step-index l.block.steps.items)) l.initial.state l.first_number (steps_script done) l.state l.number;
      from : l.number ≤ l.target;
    }
