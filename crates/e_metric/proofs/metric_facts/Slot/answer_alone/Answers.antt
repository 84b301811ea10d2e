use Rattle.std.specs.Prelude.{option_copied}
use Rattle.e_metric.proofs.answers.Fronts.{whole_system, alone_answered}
use Rattle.e_metric.proofs.metric_facts.Slot.answer_alone.Goals as goal

pub returns-in-Some : goal.returns-in-Some
returns-in-Some c =
    alone_answered c.args.which c.args.facts.now (option_copied c.args.wanted) c.in-Some.kind_system c.answer_alone.result
    (whole_system c.args.which c.args.facts.now c.args.self.now c.in-Some.kind_system c.requires.front (c.is_whole.ensures c.if-is_whole.true) c.in-Some.is) c.requires.other c.answer_alone.ensures
