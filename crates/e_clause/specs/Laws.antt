-- What follows from the definitions of metric and transfer consequence, of systems and of
-- certificates.
use Rattle.std.specs.Prelude.{ℕ, List, ◌&&◌, Bool, true, IsTrue, Option, Some, None}
use Rattle.std.specs.List.{list_all}
use Rattle.e_literal.specs.declared.object.Kind.{Kind}
use Rattle.e_literal.specs.declared.object.Scope.{Scope}
use Rattle.e_literal.specs.declared.object.Term.{Term}
use Rattle.e_literal.specs.declared.literal.Lit.{Lit}
use Rattle.e_literal.specs.WellFormed.{is_well_formed}
use Rattle.e_literal.specs.Facts.{has, is_metric}
use Rattle.e_literal.specs.Solution.{Satisfy, HasSolution, values_for_all}
use Rattle.e_clause.specs.declared.cert.Against.{Against}
use Rattle.e_clause.specs.declared.cert.Cert.{Cert}
use Rattle.e_clause.specs.declared.cert.MetricCert.{MetricCert}
use Rattle.e_clause.specs.declared.cert.TransferCert.{TransferCert}
use Rattle.e_clause.specs.Allowed.{Allowed}
use Rattle.e_clause.specs.Certify.{certifies, certifies_against}
use Rattle.e_clause.specs.Consequence.{Contradictory}
use Rattle.e_clause.specs.Metric.{MetricConsequence, Unsatisfiable, IsCounterexample}
use Rattle.e_clause.specs.Transfer.{TransferConsequence}
use Rattle.e_clause.specs.System.{rows_of_system, by_kind}
use Rattle.e_clause.specs.MetricCertificate.{metric_certifies, metric_contradicts}
use Rattle.e_clause.specs.TransferCertificate.{transfer_certifies, are_args_in}

-- ---- certificates

-- what a metric certificate certifies is a metric consequence
abbrev pub MetricCertificateIsSound : Type 0
MetricCertificateIsSound =
    (facts : List Lit) (l : Lit) (m : MetricCert) → IsTrue (metric_certifies facts l m)
    → MetricConsequence facts l

-- where one shows a contradiction, the facts are unsatisfiable
abbrev pub MetricContradictionIsSound : Type 0
MetricContradictionIsSound =
    (facts : List Lit) (m : MetricCert) → IsTrue (metric_contradicts facts m) → Unsatisfiable facts

-- what a transfer certificate certifies is a transfer consequence
abbrev pub TransferCertificateIsSound : Type 0
TransferCertificateIsSound =
    (scope : Scope) (facts : List Lit) (l : Lit) (t : TransferCert) →
    IsTrue (are_args_in scope t) → IsTrue (transfer_certifies facts l t)
    → TransferConsequence scope facts l

-- what certifies a contradiction shows that the facts contradict each other
abbrev pub ContradictionCertificateIsSound : Type 0
ContradictionCertificateIsSound =
    (scope : Scope) (facts : List Lit) (a : Against)
    → IsTrue (certifies_against scope facts a) → Contradictory facts

-- what a certificate certifies is allowed
abbrev pub CertificateIsSound : Type 0
CertificateIsSound =
    (scope : Scope) (facts : List Lit) (l : Lit) (c : Cert)
    → IsTrue (certifies scope facts l c) → Allowed scope facts l

-- a metric literal among the facts is a metric consequence
abbrev pub MetricFactFollows : Type 0
MetricFactFollows =
    (facts : List Lit) (l : Lit) → IsTrue (is_metric l) → IsTrue (has facts l)
    → MetricConsequence facts l

-- ---- systems

-- what is wanted, if a literal is, is a well-formed metric literal
abbrev pub is_well_formed_metric : Option Lit → Bool
is_well_formed_metric (Some l) = is_metric l && is_well_formed l
is_well_formed_metric None = true

-- solutions of the three metric systems, carried to the terms as they are written, are a
-- counterexample
abbrev pub SolutionsRefute : Type 0
SolutionsRefute =
    (facts : List Lit) (wanted : Option Lit) (values : Kind → Term → ℕ) →
    IsTrue (list_all is_well_formed facts) → IsTrue (is_well_formed_metric wanted) →
    ((which : Kind) → Satisfy (values which) (rows_of_system which facts wanted)) →
    IsCounterexample facts wanted (values_for_all (by_kind values))

-- where there is a counterexample each metric system has a solution
abbrev pub CounterexampleSolves : Type 0
CounterexampleSolves =
    (facts : List Lit) (wanted : Option Lit) (v : Term → ℕ) → IsCounterexample facts wanted v →
    (which : Kind) → HasSolution (rows_of_system which facts wanted)

-- so a metric literal follows where one of its metric systems has no solution
abbrev pub UnsolvedFollows : Type 0
UnsolvedFollows =
    (facts : List Lit) (l : Lit) (which : Kind) → IsTrue (is_metric l) →
    ¬ HasSolution (rows_of_system which facts (Some l)) → MetricConsequence facts l

-- and the facts are unsatisfiable where one of their metric systems has none
abbrev pub UnsolvedContradicts : Type 0
UnsolvedContradicts =
    (facts : List Lit) (which : Kind)
    → ¬ HasSolution (rows_of_system which facts None) → Unsatisfiable facts

-- a counterexample shows that the literal does not follow
abbrev pub CounterexampleRefutes : Type 0
CounterexampleRefutes =
    (facts : List Lit) (l : Lit) (v : Term → ℕ) → IsCounterexample facts (Some l) v
    → ¬ MetricConsequence facts l

-- or that the facts are satisfiable
abbrev pub CounterexampleSatisfies : Type 0
CounterexampleSatisfies =
    (facts : List Lit) (v : Term → ℕ) → IsCounterexample facts None v → ¬ Unsatisfiable facts
