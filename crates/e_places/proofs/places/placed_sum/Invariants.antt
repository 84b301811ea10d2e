use Rattle.std.proofs.Common.{◌≡◌, take, map}
use Rattle.e_places.specs.Numbered.{row_with_place}
use Rattle.e_places.proofs.places.placed_sum.Given as goal

abbrev pub invariant-loop-row : goal.invariant-loop-row
invariant-loop-row l = l.rows.items ≡ map (row_with_place l.facts) (take l.row-index l.sum)
