use Rattle.std.proofs.Common.{◌≡◌, map, take}
use Rattle.e_licence.specs.inner.BlankChoices.{filled_arguments}
use Rattle.e_licence.proofs.choices.all_arguments.Given as goal

abbrev pub invariant-loop-part : goal.invariant-loop-part
invariant-loop-part l = l.choices ≡ map (filled_arguments l.scope l.declared l.pattern) (take l.part-index l.found)
