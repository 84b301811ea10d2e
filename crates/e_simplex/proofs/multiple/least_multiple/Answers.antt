use Rattle.std.proofs.Common.{arith}
use Rattle.e_simplex.proofs.forms_not_zero.Multiples.{never_all_bad, bad_more}
use Rattle.e_simplex.proofs.multiple.least_multiple.Goals as goal

pub loop-t-preserved : goal.loop-t-preserved
loop-t-preserved c = bad_more c.args.first.now c.args.second.now c.args.k c.loop-t.t c.in-Some.field-0 c.loop-t.invariant c.in-Some.ensures

pub unreachable-requires : goal.unreachable-requires
unreachable-requires c = never_all_bad c.args.first.now c.args.second.now c.args.k c.requires.none_before (λ s z l. c.loop-t.invariant s z (omega arith))
