use Rattle.std.proofs.Common.{take}
use Rattle.e_transfer.specs.GivenGoals.{AreCertifyingParts}
use Rattle.e_transfer.proofs.instance_check.parts_of.Given as goal

abbrev pub invariant-loop-need : goal.invariant-loop-need
invariant-loop-need l = AreCertifyingParts l.query.scope l.query.facts.now (take l.need-index l.needs) l.parts
