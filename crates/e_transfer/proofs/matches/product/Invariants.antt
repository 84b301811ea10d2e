use Rattle.std.proofs.Common.{take, map}
use Rattle.e_transfer.specs.inner.Equations.{equations_of_points}
use Rattle.e_transfer.specs.inner.Matches.{AgreeAlso, match_product}
use Rattle.e_transfer.proofs.matches.product.Given as goal

abbrev pub invariant-loop-a : goal.invariant-loop-a
invariant-loop-a l = AgreeAlso (match_product (map equations_of_points (take l.a-index l.first)) (map equations_of_points l.second)) l.matches.items
