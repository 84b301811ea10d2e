use Rattle.e_literal.specs.declared.object.Kind.TheVariants.{Segment, Angle, Area}
use Rattle.e_metric.proofs.answers.Fronts.{none_front}
use Rattle.e_metric.proofs.metric_facts.MetricFacts.new.Goals as goal

pub returns : goal.returns
returns c = λ facts. record {
  segments = none_front Segment facts _ c.new.ensures.kind_system c.new.ensures.upto;
  angles = none_front Angle facts _ c.new-2.ensures.kind_system c.new-2.ensures.upto;
  areas = none_front Area facts _ c.new-3.ensures.kind_system c.new-3.ensures.upto;
}
