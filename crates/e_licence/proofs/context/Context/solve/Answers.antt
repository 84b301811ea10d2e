use Rattle.e_licence.proofs.LimitsOfFacts.{well_formed}
use Rattle.e_licence.proofs.context.Context.solve.Goals as goal

pub catch_up_all-brought-requires-clause-facts : goal.catch_up_all-brought-requires-clause-facts
catch_up_all-brought-requires-clause-facts c = well_formed c.self.inside.scope c.self.inside.facts c.self.invariant.good
