use Rattle.std.proofs.Common.{subst}
use Rattle.std.specs.Prelude.{IfSome}
use Rattle.e_metric.specs.Fronts.{AreFronts}
use Rattle.e_licence.proofs.HeldStates.{metric_facts_or_outside}
use Rattle.e_licence.proofs.solving.metric_facts_before.Goals as goal

pub returns-in-Some : goal.returns-in-Some
returns-in-Some c facts high own held = subst (λ o. IfSome o (AreFronts facts)) c.in-Some.is own

pub returns-in-None : goal.returns-in-None
returns-in-None c = metric_facts_or_outside c.args.own c.args.held.now c.metric_facts_outside.result c.metric_facts_outside.ensures
