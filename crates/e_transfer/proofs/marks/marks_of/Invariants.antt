use Rattle.std.proofs.Common.{◌≡◌, true, take, length}
use Rattle.e_transfer.specs.Marks.{are_marked}
use Rattle.e_transfer.proofs.marks.marks_of.Given as goal

abbrev pub invariant-loop-fact : goal.invariant-loop-fact
invariant-loop-fact l = record { long : length l.marks ≡ 28; all : are_marked l.marks (take l.fact-index l.facts) ≡ true }
