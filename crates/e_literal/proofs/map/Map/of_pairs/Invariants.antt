use Rattle.std.proofs.Common.{◌≡◌, ◌++◌, drop, length}
use Rattle.e_literal.specs.Rename.{pairs_of}
use Rattle.e_literal.proofs.map.Map.of_pairs.Given as goal

abbrev pub invariant-loop-source : goal.invariant-loop-source
invariant-loop-source l = l.entries.items ++ pairs_of (drop (length l.yielded) l.from) (drop (length l.yielded) l.to) ≡ pairs_of l.from l.to
