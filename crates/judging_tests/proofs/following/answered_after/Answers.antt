use Rattle.e_metric.proofs.answers.Fronts.{fronts_joined_at}
use Rattle.judging_tests.proofs.following.answered_after.Goals as goal

pub loop-fact-preserved : goal.loop-fact-preserved
loop-fact-preserved g c = fronts_joined_at _ _ _ _ c.answered_by.ensures c.in_ok-add.ensures.joined
