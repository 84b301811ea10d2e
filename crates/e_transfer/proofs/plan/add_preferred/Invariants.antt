use Rattle.e_transfer.specs.inner.Plans.{Grows}
use Rattle.e_transfer.proofs.plan.add_preferred.Given as goal

abbrev pub invariant-loop-v : goal.invariant-loop-v
invariant-loop-v l = Grows l.total l.initial.order.items l.order.items
