use Rattle.std.proofs.Common.{◌≡◌, ◌++◌, drop, length}
use Rattle.e_licence.specs.inner.BlankChoices.{filled_arguments}
use Rattle.e_licence.proofs.blanks.arguments.Given as goal

abbrev pub invariant-loop-object : goal.invariant-loop-object
invariant-loop-object l =
    l.args.items ++ filled_arguments l.scope (drop (length l.yielded) l.declared) (drop (length l.yielded) l.pattern) l.rest ≡ filled_arguments l.scope l.declared l.pattern l.part
