use Rattle.std.proofs.Common.{take}
use Rattle.e_transfer.specs.inner.Candidates.{AreSeen}
use Rattle.e_transfer.proofs.candidates.seen_numbers.Given as goal

abbrev pub invariant-loop-triple : goal.invariant-loop-triple
invariant-loop-triple l = AreSeen l.fn.known l.place (take l.triple-index l.triples) l.seen
