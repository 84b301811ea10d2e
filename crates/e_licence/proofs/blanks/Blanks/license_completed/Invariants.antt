use Rattle.e_licence.specs.Verdicts.{AreRight}
use Rattle.e_licence.proofs.blanks.Blanks.license_completed.Given as goal

abbrev pub invariant-loop-at : goal.invariant-loop-at
invariant-loop-at l = AreRight l.self.context.now l.memory
