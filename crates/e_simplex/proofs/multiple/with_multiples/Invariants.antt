use Rattle.std.proofs.Common.{length}
use Rattle.e_simplex.specs.inner.Multiple.{AddedTo}
use Rattle.e_simplex.proofs.multiple.with_multiples.Given as goal

abbrev pub invariant-loop-x : goal.invariant-loop-x
invariant-loop-x l = AddedTo (length l.yielded) l.first l.second l.t l.all.items
