-- One thing for each kind of magnitude.
use Rattle.e_literal.specs.declared.object.Kind.{Kind}
use Rattle.e_literal.specs.declared.object.Kind.TheVariants.{Segment, Angle, Area as AreaKind}
use Rattle.e_metric.specs.declared.by_kind.ByKind.{ByKind}

-- that of the kind
abbrev pub at_kind : {T : Type 0} → ByKind T → Kind → T
at_kind b Segment = b.segments
at_kind b Angle = b.angles
at_kind b AreaKind = b.areas

-- the other two kinds, in their order
abbrev pub other_two : Kind → Kind × Kind
other_two Segment = (Angle, AreaKind)
other_two Angle = (Segment, AreaKind)
other_two AreaKind = (Segment, Angle)

-- one for the kind, and those for the other two in their order
abbrev pub in_kind_order : {T : Type 0} → Kind → T → T → T → ByKind T
in_kind_order Segment own first second = record { segments = own; angles = first; areas = second }
in_kind_order Angle own first second = record { segments = first; angles = own; areas = second }
in_kind_order AreaKind own first second = record { segments = first; angles = second; areas = own }
