use Rattle.std.proofs.Common.{◌<◌, length, sym, subst}
use Rattle.e_figure.specs.Figure.{FigureView, view_of_figure}
use Rattle.e_figure.proofs.Drawable.{point_added}
use Rattle.e_figure.proofs.figure.Figure.add_point.Goals as goal

pub invariant_of-self-2 : goal.invariant_of-self-2
invariant_of-self-2 c =
    let d = view_of_figure c.self.inside.points.items c.self.inside.lines.items c.self.inside.circles.items in
    rw c.in_ok-push.ensures.items (point_added d c.args.a (subst (λ (v : FigureView). length v.points < 40) (sym c.self.view_is) c.requires.few) c.requires.small c.self.invariant)
