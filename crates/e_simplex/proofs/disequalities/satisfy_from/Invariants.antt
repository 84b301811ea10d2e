use Rattle.e_simplex.specs.inner.Points.{IsPoint}
use Rattle.e_simplex.specs.Solved.{columns_of, constraints_of}
use Rattle.e_simplex.proofs.disequalities.satisfy_from.Given as goal

abbrev pub invariant-loop-k : goal.invariant-loop-k
invariant-loop-k l = IsPoint (columns_of l.solved) (constraints_of l.solved) l.forms l.k l.point.values.items l.point.form_values.items
