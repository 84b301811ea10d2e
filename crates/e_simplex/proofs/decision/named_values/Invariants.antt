use Rattle.e_simplex.specs.inner.Paired.{PairedTo}
use Rattle.e_simplex.proofs.decision.named_values.Given as goal

abbrev pub invariant-loop-c : goal.invariant-loop-c
invariant-loop-c l = PairedTo l.c l.terms l.values l.pairs.items
