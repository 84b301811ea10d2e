-- What is solved of the first facts of a list.
use Rattle.std.proofs.Common.{◌≡◌, ℕ, ◌≤◌, List, [], ◌∷◌, ◌++◌, Bool, true, false, cond, take, length, sym, subst, arith, Option, Some, None, Result, Ok, Err, IfOk}
use Rattle.std.specs.Prelude.{IfSome}
use Rattle.std.proofs.Common.{length-append}
use Rattle.std.proofs.lemmas.List.{take_all, take-take, take-append-le, length-take-le}
use Rattle.e_literal.specs.declared.object.Kind.{Kind}
use Rattle.e_literal.specs.declared.object.Kind.TheVariants.{Segment, Angle, Area as AreaKind}
use Rattle.e_literal.specs.declared.literal.Lit.{Lit}
use Rattle.e_literal.specs.Facts.{has, with_fact}
use Rattle.e_clause.specs.declared.cert.MetricCert.{MetricCert}
use Rattle.e_clause.specs.System.{of_kind, against_goal}
use Rattle.e_metric.specs.declared.consequence.Metric.{Metric}
use Rattle.e_metric.specs.declared.kind_system.KindSystem.{KindSystem}
use Rattle.e_metric.specs.declared.metric_facts.Slot.{Slot}
use Rattle.e_metric.specs.declared.metric_facts.MetricFacts.{MetricFacts}
use Rattle.e_metric.specs.inner.ByKind.{at_kind}
use Rattle.e_metric.specs.Fronts.{IsFrontSystem, AreFronts}
use Rattle.e_metric.specs.SolvedSystems.{IsContradictionOf, IsKindSystem, IsAnswerAlone, AnswersAs}
use Rattle.e_metric.specs.MetricAnswers.{IsMetricCertificate, IsKindAnswer}

-- ---- one kind

pub none_front : (which : Kind) (facts : List Lit) (s : Slot) → s.kind_system ≡ None → s.upto ≡ 0 → IsFrontSystem which facts s
none_front which facts s e n = record { within = omega (arith, n); kind_system = subst (λ o. IfSome o (IsKindSystem which (take s.upto facts))) (sym e) tt }

pub whole_front : (which : Kind) (facts : List Lit) (s : Slot) (o : Option KindSystem) → s.kind_system ≡ o → s.upto ≡ length facts → IfSome o (IsKindSystem which facts) → IsFrontSystem which facts s
whole_front which facts s o e n h = record {
  within = omega (arith, n);
  kind_system = subst (λ p. IfSome p (IsKindSystem which (take s.upto facts))) (sym e) (subst (λ v. IfSome o (IsKindSystem which v)) (sym (take_all s.upto facts (omega (arith, n)))) h);
}

-- what is there, where all facts are known
pub whole_system : (which : Kind) (facts : List Lit) (s : Slot) (kind_system : KindSystem) → IsFrontSystem which facts s → s.upto ≡ length facts → s.kind_system ≡ Some kind_system → IsKindSystem which facts kind_system
whole_system which facts s kind_system h n e =
    subst (λ v. IsKindSystem which v kind_system) (take_all s.upto facts (omega (arith, n))) (subst (λ o. IfSome o (IsKindSystem which (take s.upto facts))) e h.kind_system)

-- what is there, where it is some
pub first_system : (which : Kind) (facts : List Lit) (s : Slot) (kind_system : KindSystem) → IsFrontSystem which facts s → s.kind_system ≡ Some kind_system → IsKindSystem which (take s.upto facts) kind_system
first_system which facts s kind_system h e = subst (λ o. IfSome o (IsKindSystem which (take s.upto facts))) e h.kind_system

pub front_copied : (which : Kind) (facts : List Lit) (s : Slot) (kind_system other : KindSystem) → IsFrontSystem which facts s → s.kind_system ≡ Some kind_system → AnswersAs kind_system other → IsFrontSystem which facts (record { kind_system = Some other; upto = s.upto })
front_copied which facts s kind_system other h e f = record { within = h.within; kind_system = f which (take s.upto facts) (first_system which facts s kind_system h e) }

pub none_left : (which : Kind) (facts : List Lit) (s : Slot) → IsFrontSystem which facts s → IsFrontSystem which facts (record { kind_system = None; upto = s.upto })
none_left which facts s h = record { within = h.within; kind_system = tt }

-- fewer facts, of which it is still a front
pub cut_front : (which : Kind) (facts : List Lit) (count : ℕ) (s : Slot) → count ≤ length facts → s.upto ≤ count → IsFrontSystem which facts s → IsFrontSystem which (take count facts) s
cut_front which facts count s n m h = record {
  within = omega (arith, m, length-take-le count facts n);
  kind_system = subst (λ v. IfSome s.kind_system (IsKindSystem which v)) (sym (take-take s.upto count facts m)) h.kind_system;
}

-- more facts
front_more : (which : Kind) (facts more : List Lit) (s : Slot) → IsFrontSystem which facts s → IsFrontSystem which (facts ++ more) s
front_more which facts more s h = record {
  within = omega (arith, h.within, length-append facts more);
  kind_system = subst (λ v. IfSome s.kind_system (IsKindSystem which v)) (sym (take-append-le s.upto facts more h.within)) h.kind_system;
}

pub alone_answered : {E : Type 0} (which : Kind) (facts : List Lit) (wanted : Option Lit) (kind_system : KindSystem) (r : Result Metric E) → IsKindSystem which facts kind_system → of_kind which (against_goal wanted) ≡ []
    → IfOk r (IsAnswerAlone kind_system) → IfOk r (IsKindAnswer which facts wanted)
alone_answered which facts wanted kind_system (Ok m) h e k = k which facts wanted h e
alone_answered which facts wanted kind_system (Err x) h e k = tt

-- a certificate that the system of a slot has, of all facts of which this is a front
pub whole_certificate : {E : Type 0} (facts : List Lit) (s : Slot) (kind_system : KindSystem) (r : Result (Option MetricCert) E) → s.upto ≡ length facts → s.kind_system ≡ Some kind_system
    → IfOk r (IsContradictionOf kind_system) → IfOk r (λ o. (which : Kind) → IsFrontSystem which facts s → IfSome o (IsMetricCertificate facts None))
whole_certificate facts s kind_system (Ok o) n e k = λ which h. k which facts (whole_system which facts s kind_system h n e)
whole_certificate facts s kind_system (Err x) n e k = tt

-- a certificate that a slot has, of the facts of which it is a front
pub at_front : {E : Type 0} (which : Kind) (facts : List Lit) (s : Slot) (r : Result (Option MetricCert) E) → IsFrontSystem which facts s
    → IfOk r (λ o. (k : Kind) → IsFrontSystem k facts s → IfSome o (IsMetricCertificate facts None)) → IfOk r (λ o. IfSome o (IsMetricCertificate facts None))
at_front which facts s (Ok o) h k = k which h
at_front which facts s (Err x) h k = tt

-- ---- all kinds

pub front_at : (facts : List Lit) (m : MetricFacts) → AreFronts facts m → (which : Kind) → IsFrontSystem which facts (at_kind m.systems which)
front_at facts m h Segment = h.segments
front_at facts m h Angle = h.angles
front_at facts m h AreaKind = h.areas

-- facts that come after change nothing
pub fronts_more : (facts more : List Lit) (m : MetricFacts) → AreFronts facts m → AreFronts (facts ++ more) m
fronts_more facts more m h = record {
  segments = front_more Segment facts more m.systems.segments h.segments;
  angles = front_more Angle facts more m.systems.angles h.angles;
  areas = front_more AreaKind facts more m.systems.areas h.areas;
}

-- a fact that joins them changes nothing
pub fronts_joined : (facts : List Lit) (l : Lit) (m : MetricFacts) → AreFronts facts m → AreFronts (with_fact facts l) m
unfolding with_fact
fronts_joined facts l m h = by (has facts l)
  where
    by : (b : Bool) → AreFronts (cond b facts (facts ++ l ∷ [])) m
    by true = h
    by false = fronts_more facts (l ∷ []) m h

pub fronts_joined_at : (facts new : List Lit) (l : Lit) (m : MetricFacts) → AreFronts facts m → new ≡ with_fact facts l → AreFronts new m
fronts_joined_at facts new l m h e = subst (λ v. AreFronts v m) (sym e) (fronts_joined facts l m h)
