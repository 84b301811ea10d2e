use Rattle.std.proofs.Common.{◌+◌, ◌*◌, []}
use Rattle.e_deriv.specs.Script.{size, script_of, step_script, steps_script, close_script, Qed}
use Rattle.e_trim.proofs.looking.+look.Given as goal

-- by the size of the script; a step is less than the steps that it begins, and more than the block inside of it
abbrev pub decreases-look : goal.decreases-look
decreases-look l = 4 * size (steps_script l.steps.now (close_script l.close.now)) + 2

abbrev pub decreases-look_back : goal.decreases-look_back
decreases-look_back l = 4 * size (step_script l.step.now (Qed [] [])) + 1

abbrev pub decreases-look_at_step : goal.decreases-look_at_step
decreases-look_at_step l = 4 * size (step_script l.step.now (Qed [] []))

abbrev pub decreases-look_inside : goal.decreases-look_inside
decreases-look_inside l = 4 * size (script_of l.block.now) + 3

abbrev pub decreases-look_from_close : goal.decreases-look_from_close
decreases-look_from_close l = 4 * size (close_script l.close.now) + 1

abbrev pub decreases-look_at_close : goal.decreases-look_at_close
decreases-look_at_close l = 4 * size (close_script l.close.now)
