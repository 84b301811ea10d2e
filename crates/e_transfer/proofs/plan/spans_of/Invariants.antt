use Rattle.std.proofs.Common.{◌≡◌, take}
use Rattle.e_clause.specs.Views.{row_of}
use Rattle.e_transfer.specs.inner.Plans.{plan_spans}
use Rattle.e_transfer.proofs.plan.spans_of.Given as goal

abbrev pub invariant-loop-v : goal.invariant-loop-v
invariant-loop-v l = l.spans.items ≡ plan_spans (row_of l.row) l.scope l.bindings (take l.v-index l.order)
