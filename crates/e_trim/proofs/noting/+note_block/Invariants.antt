use Rattle.std.proofs.Common.{◌≡◌, drop}
use Rattle.e_deriv.specs.Script.{script_of, steps_script, close_script}
use Rattle.e_trim.specs.Applied.{with_new_places, places_of}
use Rattle.e_trim.proofs.noting.+note_block.Given as goal

abbrev pub invariant-note_block-loop-step : goal.invariant-note_block-loop-step
invariant-note_block-loop-step l =
    with_new_places l.places.items (places_of (steps_script (drop l.step-index l.block.steps.items) (close_script l.block.close)))
    ≡ with_new_places l.initial.places.items (places_of (script_of l.block))

abbrev pub decreases-note_block : goal.decreases-note_block
decreases-note_block l = goal.size-note_block l

abbrev pub decreases-note_step : goal.decreases-note_step
decreases-note_step l = goal.size-note_step l

abbrev pub decreases-note_close : goal.decreases-note_close
decreases-note_close l = goal.size-note_close l
