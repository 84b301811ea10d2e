use Rattle.e_licence.specs.Verdicts.{AreRight}
use Rattle.e_licence.proofs.KnownLiterals.{Left}
use Rattle.e_licence.proofs.blanks.Blanks.license_all.Given as goal

abbrev pub invariant-loop-lit : goal.invariant-loop-lit
invariant-loop-lit l = Left l.self.context.now l.images l.self.statement.now.given l.lit-index × AreRight l.self.context.now l.memory
