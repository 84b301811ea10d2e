use Rattle.std.proofs.Common.{◌≡◌, length}
use Rattle.e_licence.specs.Verdicts.{AreRight}
use Rattle.e_licence.specs.inner.Rows.{AreExcluded, choosing_of}
use Rattle.e_licence.proofs.blanks.Blanks.excluded_numbers.Given as goal

abbrev pub invariant-loop-blank : goal.invariant-loop-blank
invariant-loop-blank l = AreExcluded (choosing_of l.self) l.excluded × (length l.excluded ≡ l.blank) × AreRight l.self.context.now l.memory
