use Rattle.std.proofs.Common.{subst, sym}
use Rattle.e_metric.specs.Fronts.{IsFrontSystem}
use Rattle.e_metric.proofs.answers.Fronts.{front_at}
use Rattle.e_metric.proofs.metric_facts.MetricFacts.answer_for_kind.Goals as goal

pub ask-requires-clause-front : goal.ask-requires-clause-front
ask-requires-clause-front c = subst (IsFrontSystem c.args.which c.args.facts.now) (sym c.get.ensures) (front_at c.args.facts.now c.args.self.now c.requires.fronts c.args.which)
