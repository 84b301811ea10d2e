use Rattle.std.proofs.Common.{◌≡◌, drop}
use Rattle.e_deriv.specs.Script.{bare_script, script_of, steps_script, close_script}
use Rattle.e_deriv.proofs.erasing.+erase.Given as goal

abbrev pub invariant-erase-loop-step : goal.invariant-erase-loop-step
invariant-erase-loop-step l =
    steps_script l.steps.items (bare_script (steps_script (drop l.step-index l.block.steps.items) (close_script l.block.close))) ≡ bare_script (script_of l.block)
