use Rattle.e_literal.specs.declared.object.Kind.TheVariants.{Segment, Angle, Area}
use Rattle.e_metric.proofs.metric_facts.MetricFacts.copy.Goals as goal

pub returns-in-Ok-copy : goal.returns-in-Ok-copy
returns-in-Ok-copy c = λ facts h. record {
  segments = c.in_ok-segments.ensures Segment facts h.segments;
  angles = c.in-Ok.ensures Angle facts h.angles;
  areas = c.in-Ok-copy.ensures Area facts h.areas;
}
