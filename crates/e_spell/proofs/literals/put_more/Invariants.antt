use Rattle.std.proofs.Common.{◌≡◌, ◌++◌, drop}
use Rattle.e_text.specs.Tokens.{with_spaces}
use Rattle.e_line.specs.Canonical.{more_monos}
use Rattle.e_names.specs.Canonical.{raw_sum}
use Rattle.e_spell.proofs.literals.put_more.Given as goal

abbrev pub invariant-loop-mono : goal.invariant-loop-mono
invariant-loop-mono l = l.out.items ++ with_spaces (more_monos (raw_sum l.names (drop l.mono-index l.monos))) ≡ l.initial.out.items ++ with_spaces (more_monos (raw_sum l.names l.monos))
