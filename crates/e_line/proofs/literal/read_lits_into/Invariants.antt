use Rattle.std.proofs.Common.{◌≡◌, ◌+◌, ◌-◌, ◌≤◌, length}
use Rattle.e_line.specs.Reading.{with_front, texts, each}
use Rattle.e_line.specs.Literals.{is_semicolon, lits_of, lit_of}
use Rattle.e_line.proofs.base.Loops.{parts_from}
use Rattle.e_line.proofs.literal.read_lits_into.Given as goal

abbrev pub invariant-loop-at : goal.invariant-loop-at
invariant-loop-at l = record { read : with_front l.lits (each lit_of (parts_from is_semicolon l.at (texts l.words))) ≡ with_front l.initial.lits (lits_of (texts l.words)); within : l.at ≤ length l.words + 1 }

abbrev pub decreases-loop-at : goal.decreases-loop-at
decreases-loop-at l = length l.words + 1 - l.at
