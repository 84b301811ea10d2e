use Rattle.std.proofs.Common.{subst, None}
use Rattle.std.specs.Prelude.{IfSome}
use Rattle.e_metric.specs.MetricAnswers.{IsMetricCertificate}
use Rattle.e_metric.proofs.metric_facts.MetricFacts.answer_of_facts_in_turn.Goals as goal

pub returns-in-Some-clause-answer : goal.returns-in-Some-clause-answer
returns-in-Some-clause-answer c = subst (λ o. IfSome o (IsMetricCertificate c.args.facts.now None)) c.in-Some.is c.in_ok-cert.ensures.cert
