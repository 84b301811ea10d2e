use Rattle.std.proofs.Common.{◌≡◌, ◌+◌, drop}
use Rattle.e_deriv.specs.Script.{size, script_of, steps_script, close_script}
use Rattle.e_deriv.proofs.sizes.+size.Given as goal

abbrev pub invariant-loop-step : goal.invariant-loop-step
invariant-loop-step l =
    l.lines + size (steps_script (drop l.step-index l.block.steps.items) (close_script l.block.close)) ≡ size (script_of l.block)
