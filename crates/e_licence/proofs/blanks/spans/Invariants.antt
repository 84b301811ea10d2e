use Rattle.std.proofs.Common.{◌≡◌, ◌++◌, drop, length}
use Rattle.e_licence.specs.inner.BlankChoices.{spans_of}
use Rattle.e_licence.proofs.blanks.spans.Given as goal

abbrev pub invariant-loop-object : goal.invariant-loop-object
invariant-loop-object l =
    l.spans.items ++ spans_of l.scope (drop (length l.yielded) l.declared) (drop (length l.yielded) l.pattern) ≡ spans_of l.scope l.declared l.pattern
