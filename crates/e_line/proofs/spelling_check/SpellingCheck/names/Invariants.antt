use Rattle.std.proofs.Common.{◌≡◌, drop}
use Rattle.e_line.specs.SpellingCheck.{past}
use Rattle.e_line.proofs.spelling_check.SpellingCheck.names.Given as goal

abbrev pub invariant-loop-name : goal.invariant-loop-name
invariant-loop-name l = past l.self (drop l.name-index l.names) ≡ past l.initial.self l.names
