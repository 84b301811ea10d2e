use Rattle.e_transfer.proofs.Needs.{part_added, part_refused, part_stopped}
use Rattle.e_transfer.proofs.instance_check.parts_of.Goals as goal

pub loop-need-preserved : goal.loop-need-preserved
loop-need-preserved c =
    let s = c.args.query.now in
    part_added s.strength s.scope s.facts.now c.args.needs.now c.loop-need.parts c.push.new.self c.loop-need.need-index c.need-item.result c.in_ok-part.field-0 c.in-Yes.part
    c.loop-need-test.true c.need-item.is c.in-Yes.is c.in_ok-part.ensures c.in_ok-push-in-Yes.ensures.ok c.loop-need.invariant

pub returns-in-No : goal.returns-in-No
returns-in-No c =
    let s = c.args.query.now in
    part_refused s.strength s.scope s.facts.now c.args.needs.now c.loop-need.need-index c.need-item.result c.in_ok-part.field-0 c.loop-need-test.true c.need-item.is c.in-No.is
    c.in_ok-part.ensures

pub returns-in-TooWide : goal.returns-in-TooWide
returns-in-TooWide c =
    let s = c.args.query.now in
    part_stopped s.strength s.scope s.facts.now c.args.needs.now c.loop-need.need-index c.need-item.result c.in_ok-part.field-0 c.in-TooWide.width c.loop-need-test.true c.need-item.is
    c.in-TooWide.is c.in_ok-part.ensures
