use Rattle.std.proofs.Common.{get_or, arith, below_more}
use Rattle.std.specs.Prelude.{IsTrue}
use Rattle.e_transfer.specs.inner.Plans.{has_variable}
use Rattle.e_transfer.proofs.plan.order_of.Goals as goal

pub loop-representative-preserved : goal.loop-representative-preserved
loop-representative-preserved c = record {
  below = c.in_ok-add_once.ensures.grows.below c.loop-representative.invariant.below;
  all = below_more (λ v. IsTrue (has_variable c.add_once.new.order.items (get_or c.args.representatives.now v 0))) c.loop-representative.representative-index
      (λ v less. c.in_ok-add_once.ensures.grows.keeps (get_or c.args.representatives.now v 0) (c.loop-representative.invariant.all v less)) c.in_ok-add_once.ensures.there;
}

pub returns : goal.returns
returns c = record {
  below = c.loop-representative.invariant.below;
  all = λ v less. c.loop-representative.invariant.all v (omega (arith, less, c.loop-representative-test.false));
}
