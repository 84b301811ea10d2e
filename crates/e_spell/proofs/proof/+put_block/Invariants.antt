use Rattle.std.proofs.Common.{◌≡◌, ◌++◌, drop, map}
use Rattle.e_deriv.specs.PlainStep.{plain_step}
use Rattle.e_spell.specs.inner.Parts.{steps_text, names_after}
use Rattle.e_spell.proofs.proof.+put_block.Given as goal

abbrev pub invariant-put_steps-loop-step : goal.invariant-put_steps-loop-step
invariant-put_steps-loop-step l =
    (l.out.items ++ steps_text l.known l.names (map plain_step (drop l.step-index l.steps)) ≡ l.initial.out.items ++ steps_text l.known l.initial.names (map plain_step l.steps))
    × (names_after l.known l.names (map plain_step (drop l.step-index l.steps)) ≡ names_after l.known l.initial.names (map plain_step l.steps))
