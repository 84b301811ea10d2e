use Rattle.std.proofs.Common.{◌≡◌, ◌++◌, drop}
use Rattle.e_spell.specs.inner.Parts.{lits_text}
use Rattle.e_spell.proofs.literals.put_literal_lines.Given as goal

abbrev pub invariant-loop-lit : goal.invariant-loop-lit
invariant-loop-lit l = l.out.items ++ lits_text l.word l.names (drop l.lit-index l.lits) ≡ l.initial.out.items ++ lits_text l.word l.names l.lits
