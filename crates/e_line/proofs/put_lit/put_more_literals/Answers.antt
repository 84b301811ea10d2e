use Rattle.std.proofs.Common.{◌∙◌}
use Rattle.e_line.proofs.read_again.Spaced.{more_after}
use Rattle.e_line.proofs.put_lit.put_more_literals.Goals as goal

pub loop-lit-preserved : goal.loop-lit-preserved
loop-lit-preserved c =
    more_after c.loop-lit.out.items c.put.new.out.items c.put_literal.new.out.items c.args.lits.now c.loop-lit.lit-index c.lit-item.result c.loop-lit-test.true c.lit-item.is c.in_ok-put.ensures.ok c.in_ok-put_literal.ensures
    ∙ c.loop-lit.invariant
