use Rattle.std.proofs.Common.{◌≡◌, take, map}
use Rattle.e_transfer.specs.inner.Equations.{equations_of_points}
use Rattle.e_transfer.proofs.matches.matches_of_points.Given as goal

abbrev pub invariant-loop-one : goal.invariant-loop-one
invariant-loop-one l = l.matches.items ≡ map equations_of_points (take l.one-index l.points)
