use Rattle.e_literal.specs.declared.object.Kind.TheVariants.{Segment, Angle, Area}
use Rattle.e_metric.proofs.metric_facts.MetricFacts.back_to.Goals as goal

pub returns : goal.returns
returns c = λ facts n h. record {
  segments = c.back_to.ensures Segment facts n h.segments;
  angles = c.back_to-2.ensures Angle facts n h.angles;
  areas = c.back_to-3.ensures Area facts n h.areas;
}
