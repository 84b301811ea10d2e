use Rattle.std.proofs.Common.{◌≡◌, ◌+◌, ◌*◌, drop}
use Rattle.e_theorem.specs.Statements.{as_views}
use Rattle.e_deriv.specs.Script.{script_of, steps_script, close_script}
use Rattle.e_deriv.specs.Goal.{goal_view}
use Rattle.e_places.specs.inner.Numbering.{HaveFew, IsReady, places_at}
use Rattle.e_verify.specs.Checking.{KeepsFirstFacts}
use Rattle.e_places.proofs.numbering.+number.Given as goal

-- by depth; a claim and a superposition are above their blocks and below their steps
abbrev pub decreases-number_block : goal.decreases-number_block
decreases-number_block l = 2 * goal.size-number_block l

abbrev pub decreases-number_close : goal.decreases-number_close
decreases-number_close l = 2 * goal.size-number_close l

abbrev pub decreases-number_step : goal.decreases-number_step
decreases-number_step l = 2 * goal.size-number_step l

abbrev pub decreases-number_claim : goal.decreases-number_claim
decreases-number_claim l = 2 * goal.size-number_claim l + 1

abbrev pub decreases-number_superposed : goal.decreases-number_superposed
decreases-number_superposed l = 2 * goal.size-number_superposed l + 1

abbrev pub invariant-number_block-loop-step : goal.invariant-number_block-loop-step
invariant-number_block-loop-step l =
    record {
      same : steps_script l.steps.items (places_at (as_views l.before) (steps_script (drop l.step-index l.block.steps.items) (close_script l.block.close)) l.state (goal_view l.goal))
          ≡ places_at (as_views l.before) (script_of l.block) l.initial.state (goal_view l.goal);
      few : HaveFew (as_views l.before) (steps_script (drop l.step-index l.block.steps.items) (close_script l.block.close)) l.state (goal_view l.goal) → HaveFew (as_views l.before) (script_of l.block) l.initial.state (goal_view l.goal);
      ready : IsReady (as_views l.before) (steps_script (drop l.step-index l.block.steps.items) (close_script l.block.close)) l.state (goal_view l.goal);
      kept : KeepsFirstFacts l.initial.state l.state;
    }
