use Rattle.std.proofs.Common.{◌≡◌}
use Rattle.e_literal.specs.Facts.{with_facts}
use Rattle.e_verify.proofs.facts.Facts.join.Given as goal

abbrev pub invariant-loop-lit : goal.invariant-loop-lit
invariant-loop-lit l = with_facts l.self l.lit-iterator.rest.items ≡ with_facts l.initial.self l.fn.lits.items
