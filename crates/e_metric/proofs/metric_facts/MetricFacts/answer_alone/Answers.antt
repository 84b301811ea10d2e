use Rattle.std.proofs.Common.{subst, sym}
use Rattle.e_metric.specs.Fronts.{IsFrontSystem}
use Rattle.e_metric.proofs.answers.Fronts.{front_at}
use Rattle.e_metric.proofs.metric_facts.MetricFacts.answer_alone.Goals as goal

pub answer_alone-requires-clause-front : goal.answer_alone-requires-clause-front
answer_alone-requires-clause-front c = subst (IsFrontSystem c.args.which c.args.facts.now) (sym c.get.ensures) (front_at c.args.facts.now c.args.self.now c.requires.fronts c.args.which)
