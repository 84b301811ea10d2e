use Rattle.std.proofs.Common.{◌≡◌, ◌+ℤ◌, ◌*ℤ◌, take}
use Rattle.e_literal.specs.declared.object.Term.{Term}
use Rattle.e_literal.specs.Rows.{coefficient, normal_summands, plus}
use Rattle.e_verify.specs.inner.Totals.{total_at}
use Rattle.e_verify.proofs.adding.add_sum.Given as goal

abbrev pub invariant-loop-m : goal.invariant-loop-m
invariant-loop-m l = (t : Term) → total_at l.totals t ≡ total_at l.initial.totals t +ℤ l.multiplier *ℤ coefficient (normal_summands (plus (take l.m-index l.sum))) t
