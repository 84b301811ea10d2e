-- What is solved of the facts of a step, kind by kind.
use Rattle.std.specs.Prelude.{◌≡◌, List, [], length, map, flat_map, IfSome, Option, None}
use Rattle.e_literal.specs.declared.object.Kind.{Kind}
use Rattle.e_literal.specs.declared.literal.Lit.{Lit}
use Rattle.e_clause.specs.declared.cert.RowName.{RowName}
use Rattle.e_clause.specs.declared.cert.MetricCert.{MetricCert}
use Rattle.e_clause.specs.System.{NamedRow, of_kind, against_goal, rows_of_term, system}
use Rattle.e_clause.specs.System.{rows_of_system}
use Rattle.e_clause.specs.Wide.{HasWidth}
use Rattle.e_fraction.specs.declared.row.Row.{Row as GivenRow}
use Rattle.e_metric.specs.AgreeingRows.{AreRows, AllLimited}
use Rattle.e_metric.specs.ListedTerms.{distinct_terms}
use Rattle.e_metric.specs.RowOrder.{AreReordered}
use Rattle.e_metric.specs.MetricAnswers.{IsMetricCertificate, IsKindAnswer}
use Rattle.e_metric.specs.declared.consequence.Metric.{Metric}
use Rattle.e_metric.specs.declared.solved_system.SolvedSystem.{SolvedSystem}
use Rattle.e_metric.specs.declared.kind_system.KindSystem.{KindSystem}
use Rattle.e_metric.specs.declared.kind_system.KindSystem.TheVariants.{Solved, Absurd, TooWide}

-- the rows are the named ones, in order, with these names
pub record AreNamed (ns : List NamedRow) (names : List RowName)
    (rows : List GivenRow) : Type 0 where
  pub pairs : List (RowName × GivenRow)
  pub are : AreRows ns pairs
  pub limited : AllLimited pairs
  pub names_are : names ≡ map (λ p. p.0) pairs
  pub rows_are : rows ≡ map (λ p. p.1) pairs

-- the rows are those of a system, in some order, with their names
pub record AreRowsOf (which : Kind) (facts : List Lit) (wanted : Option Lit)
    (names : List RowName) (rows : List GivenRow) : Type 0 where
  pub all : List NamedRow
  pub order : AreReordered all (system which facts wanted)
  pub named : AreNamed all names rows

-- the solved rows are those of the facts of the kind; their terms, and how many rows these bring
pub record IsSolvedSystem (which : Kind) (facts : List Lit) (g : SolvedSystem) : Type 0 where
  pub rows : AreRowsOf which facts None g.names.items g.solved_rows
  pub terms : g.terms.items ≡ distinct_terms which facts None
  pub raised : g.raised ≡ length (flat_map (rows_of_term facts) g.terms.items)

-- the system of the facts of one kind: their rows have a solution; or they contradict each other;
-- or their system is wide
abbrev pub IsKindSystem : Kind → List Lit → KindSystem → Type 0
IsKindSystem which facts (Solved g) = IsSolvedSystem which facts g
IsKindSystem which facts (Absurd m) = IsMetricCertificate facts None m
IsKindSystem which facts (TooWide w) = HasWidth (rows_of_system which facts None) w

-- the second system is that of each list of facts of which the first is
abbrev pub AnswersAs : KindSystem → KindSystem → Type 0
AnswersAs kind_system other =
    (which : Kind) (facts : List Lit) → IsKindSystem which facts kind_system
    → IsKindSystem which facts other

-- a certificate, if any, that each list of facts of which this is the system contradicts itself
abbrev pub IsContradictionOf : KindSystem → Option MetricCert → Type 0
IsContradictionOf kind_system o =
    (which : Kind) (facts : List Lit) → IsKindSystem which facts kind_system
    → IfSome o (IsMetricCertificate facts None)

-- the answer on each wanted literal of another kind, or of the facts alone, by the system of the
-- facts of this kind
abbrev pub IsAnswerAlone : KindSystem → Metric → Type 0
IsAnswerAlone kind_system m =
    (which : Kind) (facts : List Lit) (wanted : Option Lit) → IsKindSystem which facts kind_system
    → of_kind which (against_goal wanted) ≡ [] → IsKindAnswer which facts wanted m
