use Rattle.std.proofs.Common.{◌<◌, ℕ, length, get_or}
use Rattle.std.specs.Prelude.{IsTrue, nat_lt}
use Rattle.std.specs.List.{list_all}
use Rattle.e_transfer.specs.inner.Plans.{has_variable}
use Rattle.e_transfer.proofs.plan.order_of.Given as goal

abbrev pub invariant-loop-representative : goal.invariant-loop-representative
invariant-loop-representative l = record {
  below : IsTrue (list_all (λ v. nat_lt v (length l.bindings)) l.order.items);
  all : (v : ℕ) → v < l.representative-index → IsTrue (has_variable l.order.items (get_or l.representatives v 0));
}
