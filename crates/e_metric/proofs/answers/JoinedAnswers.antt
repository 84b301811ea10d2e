-- The answer of the three kinds, from that of each.
use Rattle.std.proofs.Common.{◌≡◌, ℕ, List, Option, refl, sym, ap, ◌∙◌, subst, inl, inr}
use Rattle.e_literal.specs.declared.object.Kind.{Kind}
use Rattle.e_literal.specs.declared.object.Kind.TheVariants.{Segment, Angle, Area as AreaKind}
use Rattle.e_literal.specs.declared.object.Term.{Term}
use Rattle.e_literal.specs.declared.literal.Lit.{Lit}
use Rattle.e_clause.specs.System.{rows_of_system}
use Rattle.e_simplex.specs.Answer.{assigned_value}
use Rattle.e_metric.specs.declared.consequence.Metric.{Metric}
use Rattle.e_metric.specs.declared.consequence.Metric.TheVariants.{Yes, No, TooWide}
use Rattle.e_metric.specs.MetricAnswers.{IsMetricAnswer, IsKindAnswer, IsSolvedOrWide, preferred_answer}
use Rattle.e_metric.proofs.answers.KindAnswers.{one_system}

abbrev IsYes : Metric → Type 0
IsYes (Yes m) = Unit {0}
IsYes (No values) = ⊥
IsYes (TooWide w) = ⊥

-- it is no list of values
abbrev IsDecided : Metric → Type 0
IsDecided m = (values : List (Term × ℕ)) → m ≡ No values → ⊥

no_certificate : (m : Metric) (values : List (Term × ℕ)) → m ≡ No values → IsYes m → ⊥
no_certificate m values e y = subst IsYes e y

module _ (facts : List Lit) (wanted : Option Lit) where
  solved_or_wide : (which : Kind) (m : Metric) → IsKindAnswer which facts wanted m → (IsYes m → ⊥) → IsSolvedOrWide facts wanted which
  solved_or_wide which (Yes c) h n = absurd (n tt)
  solved_or_wide which (No values) h n = inl (record { values = assigned_value values; satisfy = h })
  solved_or_wide which (TooWide w) h n = inr h.is_wide

  -- a certificate of one kind is one of all; that a kind is too wide is the answer of all where no kind has a certificate
  of_one : (which : Kind) (m : Metric) → IsKindAnswer which facts wanted m → IsDecided m → ((IsYes m → ⊥) → (k : Kind) → IsSolvedOrWide facts wanted k) → IsMetricAnswer facts wanted m
  of_one which (Yes c) h n others = h
  of_one which (No values) h n others = absurd (n values refl)
  of_one which (TooWide w) h n others = record {
    rows = rows_of_system which facts wanted;
    is_one = one_system which facts wanted which;
    has_width = h;
    none_refutes = others (λ y. y);
  }

  of_preferred : (which : Kind) (first second : Metric) → IsKindAnswer which facts wanted second → ((IsYes second → ⊥) → IsMetricAnswer facts wanted first) → IsMetricAnswer facts wanted (preferred_answer first second)
  of_preferred which first (Yes c) h f = h
  of_preferred which first (No values) h f = f (λ y. y)
  of_preferred which first (TooWide w) h f = f (λ y. y)

  module _ (s a r : Metric) (hs : IsKindAnswer Segment facts wanted s) (ha : IsKindAnswer Angle facts wanted a) (hr : IsKindAnswer AreaKind facts wanted r) where
    each : (IsYes s → ⊥) → (IsYes a → ⊥) → (IsYes r → ⊥) → (k : Kind) → IsSolvedOrWide facts wanted k
    each x y z Segment = solved_or_wide Segment s hs x
    each x y z Angle = solved_or_wide Angle a ha y
    each x y z AreaKind = solved_or_wide AreaKind r hr z

    pub of_areas : (x y : List (Term × ℕ)) → s ≡ No x → a ≡ No y → IsDecided r → IsMetricAnswer facts wanted r
    of_areas x y e f n = of_one AreaKind r hr n (λ z. each (no_certificate s x e) (no_certificate a y f) z)

    pub of_angles : (x : List (Term × ℕ)) (m : Metric) → s ≡ No x → IsDecided a → m ≡ preferred_answer a r → IsMetricAnswer facts wanted m
    of_angles x m e n p =
        subst (IsMetricAnswer facts wanted) (sym p) (of_preferred AreaKind a r hr (λ z. of_one Angle a ha n (λ y. each (no_certificate s x e) y z)))

    pub of_segments : (first m : Metric) → IsDecided s → first ≡ preferred_answer s a → m ≡ preferred_answer first r → IsMetricAnswer facts wanted m
    of_segments first m n p q =
        subst (IsMetricAnswer facts wanted) (sym (q ∙ ap (λ f. preferred_answer f r) p))
        (of_preferred AreaKind (preferred_answer s a) r hr (λ z. of_preferred Angle s a ha (λ y. of_one Segment s hs n (λ x. each x y z))))
