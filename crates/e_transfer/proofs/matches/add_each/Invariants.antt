use Rattle.std.proofs.Common.{◌++◌, take, map}
use Rattle.e_transfer.specs.inner.Equations.{equations_of_points}
use Rattle.e_transfer.specs.inner.Matches.{AgreeAlso}
use Rattle.e_transfer.proofs.matches.add_each.Given as goal

abbrev pub invariant-loop-b : goal.invariant-loop-b
invariant-loop-b l = AgreeAlso (l.initial.matches.items ++ map (λ b. equations_of_points l.first ++ b) (map equations_of_points (take l.b-index l.second))) l.matches.items
