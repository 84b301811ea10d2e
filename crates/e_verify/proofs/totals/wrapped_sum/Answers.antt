use Rattle.std.proofs.lemmas.Int.{wrapping_add_is}
use mir.Syntax.{w128}
use Rattle.e_verify.proofs.totals.wrapped_sum.Goals as goal

pub returns : goal.returns
returns c = wrapping_add_is w128 c.args.a c.args.b c.ranges.a c.ranges.b
