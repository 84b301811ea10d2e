-- What is answered on a metric literal, or on the facts alone.
use Rattle.std.specs.Prelude.{ℕ, ◌⊎◌, List, Bool, true, IsTrue, Contains, Option, Some, None}
use Rattle.std.specs.List.{list_all}
use Rattle.e_literal.specs.declared.object.Kind.{Kind}
use Rattle.e_literal.specs.declared.object.Scope.{Scope}
use Rattle.e_literal.specs.declared.literal.Lit.{Lit}
use Rattle.e_literal.specs.Literal.{all_in_scope}
use Rattle.e_literal.specs.Minor.{IsWide}
use Rattle.e_literal.specs.Rows.{Row}
use Rattle.e_literal.specs.Solution.{Satisfy, HasSolution}
use Rattle.e_clause.specs.declared.cert.MetricCert.{MetricCert}
use Rattle.e_clause.specs.System.{rows_of_system, metric_systems}
use Rattle.e_clause.specs.MetricCertificate.{sums_refute, are_sums_in}
use Rattle.e_clause.specs.Wide.{HasWidth}
use Rattle.e_clause.specs.Counterexample.{ListsCounterexample}
use Rattle.e_simplex.specs.Answer.{assigned_value}
use Rattle.e_clause.specs.declared.cert.Version.TheVariants as version
use Rattle.e_clause.specs.Versions.{are_sums_of}
use Rattle.e_clause.specs.Metric.{MetricConsequence}
use Rattle.e_metric.specs.declared.consequence.Consequence.{Consequence}
use Rattle.e_metric.specs.declared.consequence.Consequence.TheVariants as consequence
use Rattle.e_metric.specs.declared.consequence.Metric.{Metric}
use Rattle.e_metric.specs.declared.consequence.Metric.TheVariants.{Yes, No, TooWide}

-- the wanted literal, where one is wanted, is in scope
abbrev pub wanted_in : Scope → Option Lit → Bool
wanted_in s (Some l) = all_in_scope s l
wanted_in s None = true

-- the sums refute; they name no object but those of the facts and of the wanted literal, and no
-- literal that is not well formed
pub record IsMetricCertificate (facts : List Lit) (wanted : Option Lit)
    (m : MetricCert) : Type 0 where
  pub refutes : IsTrue (sums_refute facts wanted m.sums)
  pub scoped : (s : Scope) → IsTrue (list_all (all_in_scope s) facts) → IsTrue (wanted_in s wanted)
      → IsTrue (are_sums_in s m.sums)
  pub written : IsTrue (are_sums_of version.One m.sums)

-- the system of the kind has a solution, or is wide
abbrev pub IsSolvedOrWide : List Lit → Option Lit → Kind → Type 0
IsSolvedOrWide facts wanted which =
    HasSolution (rows_of_system which facts wanted) ⊎ IsWide (rows_of_system which facts wanted)

-- w is the width of one of the metric systems, which is wide; and none that is not wide refutes
pub record IsTooWideSystem (facts : List Lit) (wanted : Option Lit) (w : ℕ) : Type 0 where
  pub rows : List Row
  pub is_one : Contains (metric_systems facts wanted) rows
  pub has_width : HasWidth rows w
  pub none_refutes : (which : Kind) → IsSolvedOrWide facts wanted which

-- a certificate, or values that show that the literal does not follow, or a system is too wide
abbrev pub IsMetricAnswer : List Lit → Option Lit → Metric → Type 0
IsMetricAnswer facts wanted (Yes m) = IsMetricCertificate facts wanted m
IsMetricAnswer facts wanted (No values) = ListsCounterexample facts wanted values
IsMetricAnswer facts wanted (TooWide w) = IsTooWideSystem facts wanted w

-- ---- one system

-- the same of the system of one kind, whose values satisfy its rows
abbrev pub IsKindAnswer : Kind → List Lit → Option Lit → Metric → Type 0
IsKindAnswer which facts wanted (Yes m) = IsMetricCertificate facts wanted m
IsKindAnswer which facts wanted (No values) =
    Satisfy (assigned_value values) (rows_of_system which facts wanted)
IsKindAnswer which facts wanted (TooWide w) = HasWidth (rows_of_system which facts wanted) w

-- the second, if it is a certificate, or else the first
abbrev pub preferred_answer : Metric → Metric → Metric
preferred_answer first (Yes m) = Yes m
preferred_answer first (No values) = first
preferred_answer first (TooWide w) = first

-- what two kinds answer together: a certificate, or one is too wide, or values of the second
abbrev pub answer_of_both : Metric → Metric → Metric
answer_of_both (No values) second = second
answer_of_both (Yes m) second = preferred_answer (Yes m) second
answer_of_both (TooWide w) second = preferred_answer (TooWide w) second

-- the answer without its values
abbrev pub consequence_of : Metric → Consequence
consequence_of (Yes m) = consequence.Yes m
consequence_of (No values) = consequence.No
consequence_of (TooWide w) = consequence.TooWide w

-- a certificate, or the literal does not follow, or a system is too wide
abbrev pub IsConsequence : List Lit → Lit → Consequence → Type 0
IsConsequence facts l (consequence.Yes m) = IsMetricCertificate facts (Some l) m
IsConsequence facts l consequence.No = ¬ MetricConsequence facts l
IsConsequence facts l (consequence.TooWide w) = IsTooWideSystem facts (Some l) w

abbrev pub IfYes : Metric → Type 0 → Type 0
IfYes (Yes m) P = P
IfYes _ P = Unit {0}

abbrev pub IfNo : Metric → Type 0 → Type 0
IfNo (No values) P = P
IfNo _ P = Unit {0}
