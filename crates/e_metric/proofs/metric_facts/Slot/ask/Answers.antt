use Rattle.e_metric.proofs.answers.Fronts.{whole_system}
use Rattle.e_metric.proofs.metric_facts.Slot.ask.Goals as goal

pub ask-requires-clause-kind_system : goal.ask-requires-clause-kind_system
ask-requires-clause-kind_system c = whole_system c.args.which c.args.facts.now c.args.self.now c.in-Some.kind_system c.requires.front (c.is_whole.ensures c.if-is_whole.true) c.in-Some.is
