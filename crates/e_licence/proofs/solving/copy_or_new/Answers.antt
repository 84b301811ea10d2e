use Rattle.e_licence.proofs.Fronts.{copied_metric_facts}
use Rattle.e_licence.proofs.solving.copy_or_new.Goals as goal

pub returns-in-Some : goal.returns-in-Some
returns-in-Some c = copied_metric_facts c.args.metric_facts.now c.in-Some.metric_facts c.copy.result c.in-Some.is c.copy.ensures

pub returns-in-None : goal.returns-in-None
returns-in-None c facts h = c.new.ensures facts
