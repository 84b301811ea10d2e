use Rattle.std.proofs.Common.{List, get_or, subst, sym, map, take, ◌++◌}
use Rattle.e_transfer.specs.declared.equations.Equation.{Equation}
use Rattle.e_transfer.specs.declared.equations.Points.TheVariants as points
use Rattle.e_transfer.specs.inner.Equations.{equations_of_points}
use Rattle.e_transfer.specs.inner.Matches.{AgreeAlso}
use Rattle.e_transfer.proofs.GoalMatches.{each_step, points_more}
use Rattle.e_transfer.proofs.matches.add_each.Goals as goal

pub loop-b-preserved : goal.loop-b-preserved
loop-b-preserved c =
    let a = equations_of_points c.args.first in
    subst (λ (l : List (List Equation)). AgreeAlso (c.args.matches.now.items ++ map (λ b. a ++ b) l) c.add_both.new.matches.items)
    (sym (points_more c.args.second.now c.loop-b.b-index points.Nothing c.loop-b-test.true))
    (each_step c.args.matches.now.items (map equations_of_points (take c.loop-b.b-index c.args.second.now)) c.loop-b.matches.items c.add_both.new.matches.items a (equations_of_points (get_or c.args.second.now c.loop-b.b-index points.Nothing))
    c.loop-b.invariant c.in_ok-add_both.ensures)
