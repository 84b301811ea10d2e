use Rattle.std.proofs.Common.{◌≡◌, ◌++◌, drop}
use Rattle.e_text.specs.Tokens.{with_spaces}
use Rattle.e_line.specs.Canonical.{more_monos}
use Rattle.e_line.proofs.put_lit.put_more.Given as goal

abbrev pub invariant-loop-mono : goal.invariant-loop-mono
invariant-loop-mono l = l.out.items ++ with_spaces (more_monos (drop l.mono-index l.monos)) ≡ l.initial.out.items ++ with_spaces (more_monos l.monos)
