use Rattle.std.proofs.Common.{◌≡◌, true, take, length}
use Rattle.e_transfer.specs.SumMarks.{have_sum_marks}
use Rattle.e_transfer.proofs.sum_marks.marks_of_facts.Given as goal

abbrev pub invariant-loop-fact : goal.invariant-loop-fact
invariant-loop-fact l = record { long : length l.marks ≡ 256; all : have_sum_marks l.marks (take l.fact-index l.facts) ≡ true }
