-- Values of terms of each kind, carried to the terms of a step.
use Rattle.std.specs.Prelude.{ℕ, List}
use Rattle.e_literal.specs.declared.object.Kind.{Kind}
use Rattle.e_literal.specs.declared.object.Kind.TheVariants.{Segment, Angle, Area as AreaKind}
use Rattle.e_literal.specs.declared.object.Term.{Term}
use Rattle.e_literal.specs.Solution.{values_for_all}
use Rattle.e_clause.specs.System.{by_kind}
use Rattle.e_simplex.specs.Answer.{assigned_value}
use Rattle.e_metric.specs.declared.by_kind.ByKind.{ByKind}

-- those of each kind
abbrev pub values_of : ByKind (List (Term × ℕ)) → Kind → Term → ℕ
values_of values Segment = assigned_value values.segments
values_of values Angle = assigned_value values.angles
values_of values AreaKind = assigned_value values.areas

-- the value of a term of the step, as it is written
abbrev pub step_value : ByKind (List (Term × ℕ)) → Term → ℕ
step_value values = values_for_all (by_kind (values_of values))
