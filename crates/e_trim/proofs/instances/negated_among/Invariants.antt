use Rattle.std.proofs.Common.{◌≡◌, ◌++◌, map}
use Rattle.e_literal.specs.Literal.{negation}
use Rattle.e_literal.specs.Facts.{others}
use Rattle.e_trim.proofs.instances.negated_among.Given as goal

abbrev pub invariant-loop-other : goal.invariant-loop-other
invariant-loop-other l = l.others.items ++ map negation (others l.other-iterator.rest.items l.lit) ≡ map negation (others l.fn.lits.items l.lit)
