use Rattle.std.proofs.Common.{◌≡◌, max, drop}
use Rattle.e_deriv.specs.Script.{depth, script_of, steps_script, close_script}
use Rattle.e_deriv.proofs.sizes.+depth.Given as goal

abbrev pub invariant-loop-step : goal.invariant-loop-step
invariant-loop-step l =
    max l.deepest (depth (steps_script (drop l.step-index l.block.steps.items) (close_script l.block.close))) ≡ depth (script_of l.block)
