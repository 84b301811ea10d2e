use Rattle.std.proofs.Common.{subst, Some}
use Rattle.e_metric.specs.MetricAnswers.{IsKindAnswer}
use Rattle.e_metric.proofs.metric_facts.MetricFacts.certificate_by_kind.Goals as goal

pub returns-in-Yes-clause-cert : goal.returns-in-Yes-clause-cert
returns-in-Yes-clause-cert c = subst (IsKindAnswer c.kind_of_goal-which.result c.args.facts.now (Some c.args.goal.now)) c.in-Yes.is c.in_ok-cert.ensures
