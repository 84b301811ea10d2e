use Rattle.std.proofs.Common.{◌≡◌, ◌<◌, length, arith}
use Rattle.e_transfer.proofs.Lists.{each_pushed, pushed_many}
use Rattle.e_transfer.proofs.plan.representatives_of.Goals as goal

pub loop-v-preserved : goal.loop-v-preserved
loop-v-preserved c =
    let old = c.loop-v.representatives.items in
    let new = c.push.new.self.items in
    record {
      many = pushed_many old new c.representative.result c.loop-v.v c.in_ok-push.ensures.items c.loop-v.invariant.many;
      below = each_pushed (λ v r. r < length c.args.bindings.now) old new c.representative.result c.loop-v.v c.in_ok-push.ensures.items c.loop-v.invariant.many c.loop-v.invariant.below c.representative.ensures.below;
      hold = λ f agree. each_pushed (λ v r. f r ≡ f v) old new c.representative.result c.loop-v.v c.in_ok-push.ensures.items c.loop-v.invariant.many (c.loop-v.invariant.hold f agree) (c.representative.ensures.holds f agree);
    }

pub returns : goal.returns
returns c =
    let all : c.loop-v.v ≡ length c.args.bindings.now = omega (arith, c.loop-v-test.false, c.loop-v.auto.v-end) in
    record {
      many = omega (arith, all, c.loop-v.invariant.many);
      below = λ v less. c.loop-v.invariant.below v (omega (arith, all, less));
      hold = λ f agree v less. c.loop-v.invariant.hold f agree v (omega (arith, all, less));
    }
