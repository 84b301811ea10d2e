use Rattle.std.proofs.Common.{◌≡◌, ◌<◌, length, get_or, arith}
use Rattle.e_transfer.proofs.Lists.{each_pushed, pushed_many}
use Rattle.e_transfer.proofs.plan.positions_of.Goals as goal

pub loop-representative-preserved : goal.loop-representative-preserved
loop-representative-preserved c =
    let old = c.loop-representative.positions.items in
    let new = c.push.new.self.items in
    let is = c.in_ok-push.ensures.items in
    record {
      inside = omega (arith, c.loop-representative-test.true);
      many = pushed_many old new c.position_in.result c.loop-representative.representative-index is c.loop-representative.invariant.many;
      below = each_pushed (λ v p. p < length c.args.order.now) old new c.position_in.result c.loop-representative.representative-index is c.loop-representative.invariant.many c.loop-representative.invariant.below c.position_in.ensures.below;
      at = each_pushed (λ v p. get_or c.args.order.now p 0 ≡ get_or c.args.representatives.now v 0) old new c.position_in.result c.loop-representative.representative-index is c.loop-representative.invariant.many c.loop-representative.invariant.at c.position_in.ensures.at;
    }

pub returns : goal.returns
returns c =
    let all : c.loop-representative.representative-index ≡ length c.args.representatives.now = omega (arith, c.loop-representative-test.false, c.loop-representative.invariant.inside) in
    record {
      many = omega (arith, all, c.loop-representative.invariant.many);
      below = λ v less. c.loop-representative.invariant.below v (omega (arith, all, less));
      at = λ v less. c.loop-representative.invariant.at v (omega (arith, all, less));
    }
