use Rattle.e_trim.proofs.kept_scripts.BuiltSteps.{taken}
use Rattle.e_trim.proofs.building.take_flag.Goals as goal

pub returns-in-Some : goal.returns-in-Some
returns-in-Some c = taken c.args.flags.now.items c.pop.new.self.items c.in-Some.kept c.in-Some.ensures.items
