use Rattle.e_metric.proofs.answers.Fronts.{whole_certificate}
use Rattle.e_metric.proofs.metric_facts.Slot.contradiction.Goals as goal

pub returns-in-Some : goal.returns-in-Some
returns-in-Some c = whole_certificate c.args.facts.now c.args.self.now c.in-Some.kind_system c.contradiction.result (c.is_whole.ensures c.if-is_whole.true) c.in-Some.is c.contradiction.ensures

pub returns : goal.returns
returns c = λ which h. tt
