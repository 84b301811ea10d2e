use Rattle.std.proofs.Common.{take}
use Rattle.e_verify.specs.inner.Views.{row_scope_view}
use Rattle.e_verify.proofs.arithmetic.AddedRows.{IsAdded}
use Rattle.e_verify.proofs.sums.refutes.Given as goal

abbrev pub invariant-loop-multiplier : goal.invariant-loop-multiplier
invariant-loop-multiplier l = IsAdded (row_scope_view l.row_scope) (take l.multiplier-index l.sum) l.totals l.strict
