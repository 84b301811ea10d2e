use Rattle.std.proofs.Common.{◌≡◌, ◌++◌}
use Rattle.e_places.specs.Numbered.{sides_swapped}
use Rattle.e_places.proofs.places.swap_sides.Given as goal

abbrev pub invariant-loop-row : goal.invariant-loop-row
invariant-loop-row l = l.rows.items ++ sides_swapped l.row-iterator.rest.items ≡ sides_swapped l.fn.sum.items
