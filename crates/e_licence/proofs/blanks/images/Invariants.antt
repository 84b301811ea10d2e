use Rattle.std.proofs.Common.{◌≡◌, ◌++◌, drop, length}
use Rattle.e_licence.specs.inner.BlankChoices.{images_of_choice}
use Rattle.e_licence.proofs.blanks.images.Given as goal

abbrev pub invariant-loop-object : goal.invariant-loop-object
invariant-loop-object l =
    l.entries.items ++ images_of_choice l.scope (drop (length l.yielded) l.declared) (drop (length l.yielded) l.pattern) l.rest ≡ images_of_choice l.scope l.declared l.pattern l.part
