use Rattle.std.proofs.Common.{◌≡◌, drop}
use Rattle.std.specs.Prelude.{map}
use Rattle.e_literal.specs.Literal.{negation}
use Rattle.e_literal.specs.Facts.{has_all, others}
use Rattle.e_prove.proofs.licence.others_fail.Given as goal

abbrev pub invariant-loop-m : goal.invariant-loop-m
invariant-loop-m l = has_all l.facts (map negation (others (drop l.m-index l.lits) l.lit)) ≡ has_all l.facts (map negation (others l.lits l.lit))
