use Rattle.e_figure.specs.Figure.{view_of_figure}
use Rattle.e_figure.proofs.Drawable.{drawable_keeps}
use Rattle.e_figure.proofs.figure.Figure.of_objects.Goals as goal

pub invariant_of-result : goal.invariant_of-result
invariant_of-result c = drawable_keeps (view_of_figure c.args.points.items c.args.lines.items c.args.circles.items) c.requires
