-- An answer is right.
use Rattle.std.proofs.Common.{◌≡◌, ℕ, List, refl, sym, subst, true, Some, None, Result, Ok, Err, IfOk}
use Rattle.std.specs.List.{list_all}
use Rattle.e_literal.specs.declared.object.Kind.{Kind}
use Rattle.e_literal.specs.declared.object.Kind.TheVariants.{Segment, Angle, Area}
use Rattle.e_literal.specs.declared.object.Term.{Term}
use Rattle.e_literal.specs.Solution.{Satisfy}
use Rattle.std.proofs.lemmas.Bool.{and_from}
use Rattle.e_literal.specs.declared.literal.Lit.{Lit}
use Rattle.e_literal.specs.Facts.{is_metric}
use Rattle.e_literal.specs.WellFormed.{is_well_formed}
use Rattle.e_literal.proofs.Booleans.{and_left}
use Rattle.e_clause.specs.Laws.{is_well_formed_metric}
use Rattle.e_clause.specs.Metric.{MetricConsequence, Unsatisfiable}
use Rattle.e_clause.specs.MetricCertificate.{sums_refute}
use Rattle.e_clause.specs.Counterexample.{value_in}
use Rattle.e_clause.specs.System.{rows_of_system}
use Rattle.e_clause.proofs.Carried.{solutions_refute}
use Rattle.e_clause.proofs.Following.{metric_certificate, metric_contradiction, counterexample_refutes, counterexample_satisfies}
use Rattle.e_metric.specs.declared.consequence.Metric.{Metric}
use Rattle.e_metric.specs.declared.consequence.Metric.TheVariants.{Yes, No, TooWide}
use Rattle.e_metric.specs.declared.by_kind.ByKind.{ByKind}
use Rattle.e_metric.specs.inner.AssignedValues.{values_of, step_value}
use Rattle.e_metric.specs.MetricAnswers.{IsMetricAnswer, IsKindAnswer, IsConsequence, preferred_answer, answer_of_both, consequence_of, IfYes, IfNo}
use Rattle.e_metric.proofs.answers.JoinedAnswers.{of_areas, of_angles, of_segments}

pub yes_follows : (facts : List Lit) (l : Lit) (m : Metric) → is_well_formed_metric (Some l) ≡ true → IsMetricAnswer facts (Some l) m → IfYes m (MetricConsequence facts l)
yes_follows facts l (Yes c) g h =
    metric_certificate facts l c (and_from (is_metric l) (sums_refute facts (Some l) c.sums) (and_left (is_metric l) (is_well_formed l) g) h.refutes)
yes_follows facts l (No v) g h = tt
yes_follows facts l (TooWide w) g h = tt

pub no_follows : (facts : List Lit) (l : Lit) (m : Metric) → IsMetricAnswer facts (Some l) m → IfNo m (¬ MetricConsequence facts l)
no_follows facts l (Yes c) h = tt
no_follows facts l (No v) h = counterexample_refutes facts l (value_in v) h.counterexample
no_follows facts l (TooWide w) h = tt

pub yes_contradicts : (facts : List Lit) (m : Metric) → IsMetricAnswer facts None m → IfYes m (Unsatisfiable facts)
yes_contradicts facts (Yes c) h = metric_contradiction facts c h.refutes
yes_contradicts facts (No v) h = tt
yes_contradicts facts (TooWide w) h = tt

pub no_contradicts : (facts : List Lit) (m : Metric) → IsMetricAnswer facts None m → IfNo m (¬ Unsatisfiable facts)
no_contradicts facts (Yes c) h = tt
no_contradicts facts (No v) h = counterexample_satisfies facts (value_in v) h.counterexample
no_contradicts facts (TooWide w) h = tt

-- ---- without values

answer_without_values : (facts : List Lit) (l : Lit) (m : Metric) → IsMetricAnswer facts (Some l) m → IsConsequence facts l (consequence_of m)
answer_without_values facts l (Yes c) h = h
answer_without_values facts l (No v) h = counterexample_refutes facts l (value_in v) h.counterexample
answer_without_values facts l (TooWide w) h = h

abbrev IsNo : Metric → Type 0
IsNo (Yes c) = ⊥
IsNo (No v) = Unit {0}
IsNo (TooWide w) = ⊥

decided : (m : Metric) → (IsNo m → ⊥) → (v : List (Term × ℕ)) → m ≡ No v → ⊥
decided m n v e = n (subst IsNo (sym e) tt)

joined_preferred : (first second : Metric) → (IsNo first → ⊥) → answer_of_both first second ≡ preferred_answer first second
joined_preferred (Yes c) second n = refl
joined_preferred (No v) second n = absurd (n tt)
joined_preferred (TooWide w) second n = refl

preferred_so : (first second : Metric) → (IsNo first → ⊥) → IsNo (preferred_answer first second) → ⊥
preferred_so first (Yes c) n = λ z. z
preferred_so first (No v) n = n
preferred_so first (TooWide w) n = n

module _ (facts : List Lit) (l : Lit) (good : list_all is_well_formed facts ≡ true) (good_goal : is_well_formed_metric (Some l) ≡ true) where
  module _ (x y z : List (Term × ℕ)) (hx : IsKindAnswer Segment facts (Some l) (No x)) (hy : IsKindAnswer Angle facts (Some l) (No y)) (hz : IsKindAnswer Area facts (Some l) (No z)) where
    each_solved : (which : Kind) → Satisfy (values_of (record { segments = x; angles = y; areas = z }) which) (rows_of_system which facts (Some l))
    each_solved Segment = hx
    each_solved Angle = hy
    each_solved Area = hz

    none_follows : ¬ MetricConsequence facts l
    none_follows =
        counterexample_refutes facts l (step_value (record { segments = x; angles = y; areas = z }))
        (solutions_refute facts (Some l) (values_of (record { segments = x; angles = y; areas = z })) good good_goal each_solved)

  by_areas : (x y : List (Term × ℕ)) (r : Metric) → IsKindAnswer Segment facts (Some l) (No x) → IsKindAnswer Angle facts (Some l) (No y) → IsKindAnswer Area facts (Some l) r
      → IsConsequence facts l (consequence_of r)
  by_areas x y (Yes c) hx hy hr = hr
  by_areas x y (No z) hx hy hr = none_follows x y z hx hy hr
  by_areas x y (TooWide w) hx hy hr = of_areas facts (Some l) (No x) (No y) (TooWide w) hx hy hr x y refl refl (decided (TooWide w) (λ z. z))

  by_angles : (x : List (Term × ℕ)) (a r : Metric) → (IsNo a → ⊥) → IsKindAnswer Segment facts (Some l) (No x) → IsKindAnswer Angle facts (Some l) a → IsKindAnswer Area facts (Some l) r
      → IsConsequence facts l (consequence_of (answer_of_both a r))
  by_angles x a r n hx ha hr =
      answer_without_values facts l (answer_of_both a r) (of_angles facts (Some l) (No x) a r hx ha hr x (answer_of_both a r) refl (decided a n) (joined_preferred a r n))

  by_segments : (s a r : Metric) → (IsNo s → ⊥) → IsKindAnswer Segment facts (Some l) s → IsKindAnswer Angle facts (Some l) a → IsKindAnswer Area facts (Some l) r
      → IsConsequence facts l (consequence_of (answer_of_both (answer_of_both s a) r))
  by_segments s a r n hs ha hr =
      let first = joined_preferred s a n in
      answer_without_values facts l (answer_of_both (answer_of_both s a) r)
      (of_segments facts (Some l) s a r hs ha hr (answer_of_both s a) (answer_of_both (answer_of_both s a) r) (decided s n) first
      (joined_preferred (answer_of_both s a) r (subst (λ m. IsNo m → ⊥) (sym first) (preferred_so s a n))))

  -- what the three kinds say together
  pub joined_is : (s a r : Metric) → IsKindAnswer Segment facts (Some l) s → IsKindAnswer Angle facts (Some l) a → IsKindAnswer Area facts (Some l) r
      → IsConsequence facts l (consequence_of (answer_of_both (answer_of_both s a) r))
  joined_is (No x) (No y) r hs ha hr = by_areas x y r hs ha hr
  joined_is (No x) (Yes c) r hs ha hr = by_angles x (Yes c) r (λ z. z) hs ha hr
  joined_is (No x) (TooWide w) r hs ha hr = by_angles x (TooWide w) r (λ z. z) hs ha hr
  joined_is (Yes c) a r hs ha hr = by_segments (Yes c) a r (λ z. z) hs ha hr
  joined_is (TooWide w) a r hs ha hr = by_segments (TooWide w) a r (λ z. z) hs ha hr

-- ---- of results

if_ok : {E : Type 0} (P Q : Metric → Type 0) → ((m : Metric) → P m → Q m) → (r : Result Metric E) → IfOk r P → IfOk r Q
if_ok P Q f (Ok m) h = f m h
if_ok P Q f (Err e) h = tt

pub each_yes_follows : {E : Type 0} (facts : List Lit) (l : Lit) (r : Result Metric E) → is_well_formed_metric (Some l) ≡ true → IfOk r (IsMetricAnswer facts (Some l)) → IfOk r (λ m. IfYes m (MetricConsequence facts l))
each_yes_follows facts l r g h = if_ok (IsMetricAnswer facts (Some l)) (λ m. IfYes m (MetricConsequence facts l)) (λ m k. yes_follows facts l m g k) r h

pub each_no_follows : {E : Type 0} (facts : List Lit) (l : Lit) (r : Result Metric E) → IfOk r (IsMetricAnswer facts (Some l)) → IfOk r (λ m. IfNo m (¬ MetricConsequence facts l))
each_no_follows facts l r h = if_ok (IsMetricAnswer facts (Some l)) (λ m. IfNo m (¬ MetricConsequence facts l)) (λ m k. no_follows facts l m k) r h

pub each_yes_contradicts : {E : Type 0} (facts : List Lit) (r : Result Metric E) → IfOk r (IsMetricAnswer facts None) → IfOk r (λ m. IfYes m (Unsatisfiable facts))
each_yes_contradicts facts r h = if_ok (IsMetricAnswer facts None) (λ m. IfYes m (Unsatisfiable facts)) (λ m k. yes_contradicts facts m k) r h

pub each_no_contradicts : {E : Type 0} (facts : List Lit) (r : Result Metric E) → IfOk r (IsMetricAnswer facts None) → IfOk r (λ m. IfNo m (¬ Unsatisfiable facts))
each_no_contradicts facts r h = if_ok (IsMetricAnswer facts None) (λ m. IfNo m (¬ Unsatisfiable facts)) (λ m k. no_contradicts facts m k) r h
