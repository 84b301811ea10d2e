use Rattle.e_simplex.specs.Answer.{assigned_value}
use Rattle.e_metric.proofs.answers.SolvedSystems.{one_so}
use Rattle.e_metric.proofs.evaluating.are_so.Goals as goal

pub loop-row-preserved : goal.loop-row-preserved
loop-row-preserved c = λ h. c.loop-row.invariant (one_so (assigned_value c.args.values.now) c.args.rows.now c.loop-row.row-index c.row-item.result c.loop-row-test.true c.row-item.is (c.is_so.ensures c.if-not-is_so.false) h)
