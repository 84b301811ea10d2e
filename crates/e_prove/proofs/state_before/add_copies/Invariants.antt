use Rattle.std.proofs.Common.{◌≡◌, drop}
use Rattle.e_literal.specs.Facts.{with_facts}
use Rattle.e_prove.proofs.state_before.add_copies.Given as goal

abbrev pub invariant-loop-lit : goal.invariant-loop-lit
invariant-loop-lit l = with_facts l.facts (drop l.lit-index l.lits) ≡ with_facts l.initial.facts l.lits
