-- What is solved of the first facts of a list.
use Rattle.std.specs.Prelude.{◌≤◌, List, length, take, IfSome}
use Rattle.e_literal.specs.declared.object.Kind.{Kind}
use Rattle.e_literal.specs.declared.object.Kind.TheVariants.{Segment, Angle, Area as AreaKind}
use Rattle.e_literal.specs.declared.literal.Lit.{Lit}
use Rattle.e_metric.specs.declared.metric_facts.Slot.{Slot}
use Rattle.e_metric.specs.declared.metric_facts.MetricFacts.{MetricFacts}
use Rattle.e_metric.specs.SolvedSystems.{IsKindSystem}

-- what is there, if anything, is the system of the first facts of the kind
pub record IsFrontSystem (which : Kind) (facts : List Lit) (s : Slot) : Type 0 where
  pub within : s.upto ≤ length facts
  pub kind_system : IfSome s.kind_system (IsKindSystem which (take s.upto facts))

-- the second is a front of each list of facts of which the first is one
abbrev pub IsFrontAs : Slot → Slot → Type 0
IsFrontAs s r =
    (which : Kind) (facts : List Lit) → IsFrontSystem which facts s → IsFrontSystem which facts r

-- and so of each kind, with as many facts as it was asked about
pub record AreFronts (facts : List Lit) (m : MetricFacts) : Type 0 where
  pub segments : IsFrontSystem Segment facts m.systems.segments
  pub angles : IsFrontSystem Angle facts m.systems.angles
  pub areas : IsFrontSystem AreaKind facts m.systems.areas
