use Rattle.std.proofs.Common.{◌≡◌, length}
use Rattle.e_licence.specs.Verdicts.{AreRight}
use Rattle.e_licence.specs.inner.Rows.{AreMarked, choosing_of}
use Rattle.e_licence.proofs.blanks.Blanks.marks.Given as goal

abbrev pub invariant-loop-value : goal.invariant-loop-value
invariant-loop-value l = AreMarked (choosing_of l.self) l.blank l.marks × (length l.marks ≡ l.value) × AreRight l.self.context.now l.memory
