use Rattle.e_simplex.specs.inner.Tried.{AreValues}
use Rattle.e_simplex.proofs.unequal.values_at.Given as goal

abbrev pub invariant-loop-constraint : goal.invariant-loop-constraint
invariant-loop-constraint l = AreValues l.constraint-index l.forms l.values l.all.items
