use Rattle.std.proofs.Common.{subst, sym}
use Rattle.e_metric.specs.Fronts.{IsFrontSystem}
use Rattle.e_metric.proofs.answers.Fronts.{front_at, at_front}
use Rattle.e_metric.proofs.metric_facts.MetricFacts.contradiction_of.Goals as goal

pub returns-clause-cert : goal.returns-clause-cert
returns-clause-cert c =
    at_front c.args.which c.args.facts.now c.get.result.now c.contradiction.result
    (subst (IsFrontSystem c.args.which c.args.facts.now) (sym c.get.ensures) (front_at c.args.facts.now c.catch_up.new.self c.in_ok-catch_up.ensures c.args.which)) c.contradiction.ensures
