use Rattle.std.proofs.Common.{◌≡◌, ◌+◌, ◌-◌, ◌≤◌, length}
use Rattle.std.specs.List.{list_any}
use Rattle.e_line.specs.Reading.{texts}
use Rattle.e_line.specs.Literals.{is_semicolon}
use Rattle.e_line.specs.Items.{begins_item, has_item}
use Rattle.e_line.proofs.base.Loops.{parts_from}
use Rattle.e_line.proofs.items.has_item.Given as goal

abbrev pub invariant-loop-at : goal.invariant-loop-at
invariant-loop-at l = record { none : list_any begins_item (parts_from is_semicolon l.at (texts l.words)) ≡ has_item (texts l.words); within : l.at ≤ length l.words + 1 }

abbrev pub decreases-loop-at : goal.decreases-loop-at
decreases-loop-at l = length l.words + 1 - l.at
