use Rattle.e_licence.proofs.FailingRows.{pair_more, long_more}
use Rattle.e_licence.proofs.restricted.pair_choice.Goals as goal

pub loop-at-preserved : goal.loop-at-preserved
loop-at-preserved c = (
  pair_more c.args.spans.now c.args.pair.first c.args.pair.value c.args.pair.last c.args.pair.num c.loop-at.choice.items c.push.new.self.items c.loop-at.at c.number_at.result c.loop-at-test.true
      c.in_ok-push.ensures.items c.loop-at.invariant.1 c.number_at.ensures c.loop-at.invariant.0,
  long_more c.loop-at.choice.items c.push.new.self.items c.number_at.result c.loop-at.at c.in_ok-push.ensures.items c.loop-at.invariant.1,
)
