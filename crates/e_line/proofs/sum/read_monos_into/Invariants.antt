use Rattle.std.proofs.Common.{◌≡◌, ◌+◌, ◌-◌, ◌≤◌, length}
use Rattle.std.specs.List.{slice_split}
use Rattle.e_line.specs.Reading.{with_front, texts, each}
use Rattle.e_line.specs.Sums.{is_plus, mono_of}
use Rattle.e_line.proofs.base.Loops.{parts_from}
use Rattle.e_line.proofs.sum.read_monos_into.Given as goal

abbrev pub invariant-loop-at : goal.invariant-loop-at
invariant-loop-at l = record {
  read : with_front l.monos (each mono_of (parts_from is_plus l.at (texts l.words))) ≡ with_front l.initial.monos (each mono_of (slice_split is_plus (texts l.words)));
  within : l.at ≤ length l.words + 1;
}

abbrev pub decreases-loop-at : goal.decreases-loop-at
decreases-loop-at l = length l.words + 1 - l.at
