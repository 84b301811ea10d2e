use Rattle.e_metric.proofs.answers.Fronts.{front_copied, none_left}
use Rattle.e_metric.proofs.metric_facts.Slot.copy.Goals as goal

pub returns-in_ok-kind_system-in-Some : goal.returns-in_ok-kind_system-in-Some
returns-in_ok-kind_system-in-Some c = λ which facts h. front_copied which facts c.args.self.now c.in-Some.kind_system c.in_ok-kind_system-in-Some.kind_system h c.in-Some.is c.in_ok-kind_system-in-Some.ensures

pub returns-in-None : goal.returns-in-None
returns-in-None c = λ which facts h. none_left which facts c.args.self.now h
