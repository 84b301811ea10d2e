use Rattle.std.proofs.Common.{refl, rules, take}
use Rattle.e_metric.proofs.answers.Fronts.{none_front, cut_front}
use Rattle.e_metric.proofs.metric_facts.Slot.back_to.Goals as goal

pub returns-then-is_within : goal.returns-then-is_within
returns-then-is_within c = λ which facts n h. cut_front which facts c.args.count c.args.self.now n (c.is_within.ensures c.if-is_within.true) h

pub returns : goal.returns
returns c = λ which facts n h. none_front which (take c.args.count facts) _ (search rules) refl
