use Rattle.std.proofs.Common.{◌≡◌, ◌++◌, drop}
use Rattle.e_text.specs.Tokens.{with_spaces}
use Rattle.e_line.specs.Canonical.{more_words}
use Rattle.e_line.proofs.put_lit.put_more_literals.Given as goal

abbrev pub invariant-loop-lit : goal.invariant-loop-lit
invariant-loop-lit l = l.out.items ++ with_spaces (more_words (drop l.lit-index l.lits)) ≡ l.initial.out.items ++ with_spaces (more_words l.lits)
