use Rattle.e_literal.specs.Facts.{with_facts}
use Rattle.e_prove.proofs.NextStates.{good_copy, basis_as, joined_end}
use Rattle.e_prove.proofs.state_before.join_copies.Goals as goal

pub add-requires : goal.add-requires
add-requires c =
    good_copy c.args.context.now c.loop-lit.context c.args.lits.now c.loop-lit.lit-index c.lit-item.result c.in_ok-copy.field-0 c.loop-lit-test.true c.lit-item.is c.in_ok-copy.ensures c.loop-lit.invariant.scope c.loop-lit.invariant.whole c.requires

pub returns : goal.returns
returns c =
    let x = c.args.context.now in
    let y = c.loop-lit.context in
    let all = with_facts x.facts c.args.lits.now in
    basis_as x y all c.loop-lit.invariant.scope c.loop-lit.invariant.held (joined_end y.facts c.args.lits.now all c.loop-lit.lit-index c.loop-lit-test.false c.loop-lit.invariant.whole)
