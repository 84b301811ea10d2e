use Rattle.std.proofs.Common.{◌≡◌, ◌++◌, drop, map}
use Rattle.e_text.specs.Tokens.{with_spaces}
use Rattle.e_line.specs.Canonical.{argument_word}
use Rattle.e_line.proofs.put_line.put_arguments.Given as goal

abbrev pub invariant-loop-argument : goal.invariant-loop-argument
invariant-loop-argument l =
    l.out.items ++ with_spaces (map argument_word (drop l.argument-index l.args)) ≡ l.initial.out.items ++ with_spaces (map argument_word l.args)
