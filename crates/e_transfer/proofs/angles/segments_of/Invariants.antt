use Rattle.std.proofs.Common.{◌≡◌, take}
use Rattle.e_transfer.specs.inner.ListedTerms.{segments_of}
use Rattle.e_transfer.proofs.angles.segments_of.Given as goal

abbrev pub invariant-loop-pair : goal.invariant-loop-pair
invariant-loop-pair l = l.points.items ≡ segments_of (take l.pair-index l.values)
