-- The steps of a block in the code, and in its script.
use Rattle.std.proofs.Common.{◌≡◌, List, [], ◌∷◌, map, refl, ap, ◌∙◌}
use Rattle.e_deriv.specs.declared.block.Step.{Step}
use Rattle.e_deriv.specs.Script.{Script, steps_script}
use Rattle.e_deriv.specs.PlainStep.{plain_step, before, all_before}
use Rattle.e_deriv.proofs.Scripts.{step_script-plain}

pub all_plain : (steps : List Step) (rest : Script) → steps_script steps rest ≡ all_before (map plain_step steps) rest
all_plain [] rest = refl
all_plain (s ∷ steps) rest = step_script-plain s (steps_script steps rest) ∙ ap (before (plain_step s)) (all_plain steps rest)
