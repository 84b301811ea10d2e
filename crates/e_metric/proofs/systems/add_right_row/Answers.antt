use Rattle.e_metric.proofs.rows.SystemRows.{right_grows}
use Rattle.e_metric.proofs.systems.add_right_row.Goals as goal

pub returns-in_ok-push-in-Angle : goal.returns-in_ok-push-in-Angle
returns-in_ok-push-in-Angle c =
    right_grows c.args.which c.args.rows.now.items _ c.in_ok-row-in-Angle.row c.in-Angle.is c.in_ok-row-in-Angle.ensures.row c.in_ok-row-in-Angle.ensures.limited c.in_ok-push-in-Angle.ensures.items
