use Rattle.std.proofs.Common.{◌+◌, ◌*◌, []}
use Rattle.e_deriv.specs.Script.{size, script_of, step_script, steps_script, close_script, Qed}
use Rattle.e_trim.proofs.building.+build.Given as goal

-- by the size of the script; a step is less than the steps that it begins, and more than the block inside of it
abbrev pub decreases-build : goal.decreases-build
decreases-build l = 3 * size (steps_script l.steps.now (close_script l.close.now)) + 1

abbrev pub decreases-build_step : goal.decreases-build_step
decreases-build_step l = 3 * size (step_script l.step.now (Qed [] []))

abbrev pub decreases-build_block : goal.decreases-build_block
decreases-build_block l = 3 * size (script_of l.block.now) + 2

abbrev pub decreases-build_close : goal.decreases-build_close
decreases-build_close l = 3 * size (close_script l.close.now)
