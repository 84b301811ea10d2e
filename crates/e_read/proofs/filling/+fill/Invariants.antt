use Rattle.std.proofs.Common.{◌≡◌, drop}
use Rattle.e_deriv.specs.Script.{script_of, steps_script, close_script}
use Rattle.e_read.specs.Filled.{script_with_certs}
use Rattle.e_read.proofs.filling.+fill.Given as goal

abbrev pub invariant-fill-loop-step : goal.invariant-fill-loop-step
invariant-fill-loop-step l =
    let left = script_with_certs (steps_script (drop l.step-index l.block.steps.items) (close_script l.block.close)) l.queue in
    script_with_certs (script_of l.block) l.initial.queue ≡ (steps_script l.steps.items left.0, left.1)
