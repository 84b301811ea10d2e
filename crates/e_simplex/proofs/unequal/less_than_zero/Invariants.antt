use Rattle.std.proofs.Common.{◌≡◌, take}
use Rattle.e_simplex.specs.inner.Tried.{neg_form}
use Rattle.e_simplex.proofs.unequal.less_than_zero.Given as goal

abbrev pub invariant-loop-x : goal.invariant-loop-x
invariant-loop-x l = l.form.items ≡ neg_form (take l.x-index l.constraint.form)
