use Rattle.std.proofs.Common.{length}
use Rattle.e_transfer.specs.inner.Plans.{Grows}
use Rattle.e_transfer.proofs.plan.add_bound.Given as goal

abbrev pub invariant-loop-v : goal.invariant-loop-v
invariant-loop-v l = Grows (length l.bindings) l.initial.order.items l.order.items
