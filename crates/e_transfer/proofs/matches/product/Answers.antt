use Rattle.std.proofs.Common.{List, get_or, subst, sym, map, take}
use Rattle.e_transfer.specs.declared.equations.Equation.{Equation}
use Rattle.e_transfer.specs.declared.equations.Points.TheVariants as points
use Rattle.e_transfer.specs.inner.Equations.{equations_of_points}
use Rattle.e_transfer.specs.inner.Matches.{AgreeAlso, match_product}
use Rattle.e_transfer.proofs.GoalMatches.{product_step, points_more}
use Rattle.e_transfer.proofs.matches.product.Goals as goal

pub loop-a-preserved : goal.loop-a-preserved
loop-a-preserved c =
    let second = map equations_of_points c.args.second.now in
    subst (λ (l : List (List Equation)). AgreeAlso (match_product l second) c.add_each.new.matches.items)
    (sym (points_more c.args.first.now c.loop-a.a-index points.Nothing c.loop-a-test.true))
    (product_step (map equations_of_points (take c.loop-a.a-index c.args.first.now)) second c.loop-a.matches.items c.add_each.new.matches.items (equations_of_points (get_or c.args.first.now c.loop-a.a-index points.Nothing))
    c.loop-a.invariant c.in_ok-add_each.ensures)
