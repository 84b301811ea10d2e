use Rattle.e_prove.proofs.Applications.{entries_next}
use Rattle.e_prove.proofs.application.without_blanks.Goals as goal

pub loop-object-preserved : goal.loop-object-preserved
loop-object-preserved c =
    entries_next c.args.args.now c.loop-object.object-index _ c.loop-object.entries _ c.loop-object-test.true c.loop-object.invariant c.in_ok-push.ensures.ok
