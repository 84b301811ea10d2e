use Rattle.std.proofs.Common.{ap}
use Rattle.e_licence.proofs.HeldStates.{begins, basis_of}
use Rattle.e_licence.proofs.context.Context.new.Goals as goal

pub invariant_of-result : goal.invariant_of-result
invariant_of-result c = begins c.args.scope c.args.facts c.new.result.items c.new.ensures.items c.requires

pub returns-clause-ok : goal.returns-clause-ok
returns-clause-ok c = ap (basis_of c.args.scope c.args.facts) c.new.ensures.items
