use Rattle.std.proofs.Common.{◌≡◌, drop}
use Rattle.e_literal.specs.Facts.{joined_all}
use Rattle.e_trim.proofs.step_state.join_copies.Given as goal

abbrev pub invariant-loop-lit : goal.invariant-loop-lit
invariant-loop-lit l = joined_all l.facts (drop l.lit-index l.lits) ≡ joined_all l.initial.facts l.lits
