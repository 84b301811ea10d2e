use Rattle.std.proofs.Common.{◌≡◌, ◌+◌, ◌*◌, drop}
use Rattle.e_theorem.specs.Statements.{as_views}
use Rattle.e_deriv.specs.Script.{script_of, steps_script, close_script}
use Rattle.e_deriv.specs.Goal.{goal_view}
use Rattle.e_verify.specs.Checking.{verdict_at, IsCheckable, KeepsFirstFacts}
use Rattle.e_verify.proofs.block.+block.Given as goal

-- by depth; a claim and a superposition are above their blocks and below their steps
abbrev pub decreases-verify_block : goal.decreases-verify_block
decreases-verify_block l = 2 * goal.size-verify_block l

abbrev pub decreases-verify_close : goal.decreases-verify_close
decreases-verify_close l = 2 * goal.size-verify_close l

abbrev pub decreases-verify_step : goal.decreases-verify_step
decreases-verify_step l = 2 * goal.size-verify_step l

abbrev pub decreases-verify_claim : goal.decreases-verify_claim
decreases-verify_claim l = 2 * goal.size-verify_claim l + 1

abbrev pub decreases-verify_superposed : goal.decreases-verify_superposed
decreases-verify_superposed l = 2 * goal.size-verify_superposed l + 1

abbrev pub invariant-verify_block-loop-step : goal.invariant-verify_block-loop-step
invariant-verify_block-loop-step l =
    record {
      same : verdict_at (as_views l.before) (steps_script (drop l.step-index l.block.steps.items) (close_script l.block.close)) l.state (goal_view l.goal) l.number
          ≡ verdict_at (as_views l.before) (script_of l.block) l.initial.state (goal_view l.goal) l.first_number;
      ready : IsCheckable (as_views l.before) (steps_script (drop l.step-index l.block.steps.items) (close_script l.block.close)) l.state (goal_view l.goal) l.number;
      kept : KeepsFirstFacts l.initial.state l.state;
    }
