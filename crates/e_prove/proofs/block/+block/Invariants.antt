use Rattle.std.specs.Prelude.{◌+◌, ◌*◌, take}
use Rattle.e_theorem.specs.Statements.{as_views}
use Rattle.e_deriv.specs.Script.{steps_script}
use Rattle.e_prove.specs.inner.PassedSteps.{IsPassed}
use Rattle.e_prove.proofs.block.+block.Given as goal

-- by depth; a claim and a superposition are above their blocks and below their steps
abbrev pub decreases-prove_block : goal.decreases-prove_block
decreases-prove_block l = 2 * goal.size-prove_block l

abbrev pub decreases-prove_close : goal.decreases-prove_close
decreases-prove_close l = 2 * goal.size-prove_close l

abbrev pub decreases-prove_step : goal.decreases-prove_step
decreases-prove_step l = 2 * goal.size-prove_step l

abbrev pub decreases-prove_claim : goal.decreases-prove_claim
decreases-prove_claim l = 2 * goal.size-prove_claim l + 1

abbrev pub decreases-prove_superposed : goal.decreases-prove_superposed
decreases-prove_superposed l = 2 * goal.size-prove_superposed l + 1

abbrev pub invariant-prove_block-loop-step : goal.invariant-prove_block-loop-step
invariant-prove_block-loop-step l =
    record {
      passed : IsPassed (as_views l.before) (steps_script (take l.step-index l.block.steps.items)) l.initial.state l.initial.number (steps_script l.steps.items) l.state l.number;
    }
