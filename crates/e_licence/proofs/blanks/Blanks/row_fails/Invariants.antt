use Rattle.e_licence.specs.Verdicts.{AreRight}
use Rattle.e_licence.specs.inner.Rows.{RowFails, choosing_of}
use Rattle.e_licence.proofs.blanks.Blanks.row_fails.Given as goal

abbrev pub invariant-loop-num : goal.invariant-loop-num
invariant-loop-num l = RowFails (choosing_of l.self) l.lit l.pair.first l.pair.value l.pair.last l.num × AreRight l.self.context.now l.memory
