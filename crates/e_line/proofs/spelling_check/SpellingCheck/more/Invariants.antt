use Rattle.std.proofs.Common.{◌≡◌, drop}
use Rattle.e_line.specs.Canonical.{more_monos}
use Rattle.e_line.specs.SpellingCheck.{past}
use Rattle.e_line.proofs.spelling_check.SpellingCheck.more.Given as goal

abbrev pub invariant-loop-mono : goal.invariant-loop-mono
invariant-loop-mono l = past l.self (more_monos (drop l.mono-index l.monos)) ≡ past l.initial.self (more_monos l.monos)
