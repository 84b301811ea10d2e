-- Sums that show that the facts contradict each other show so of more facts too, and of each
-- literal that it follows.
use Rattle.std.proofs.Common.{◌≡◌, ℕ, zero, suc, List, [], ◌∷◌, ◌++◌, take, drop, take-append-drop, append_assoc, refl, sym, ap, ap₂, ◌∙◌, subst, cond, Bool, true, false, ◌&&◌, ◌||◌, true≢false, inl, inr, Option, Some, None}
use Rattle.std.specs.Prelude.{option_and_then, slice_get}
use Rattle.std.specs.Option.{option_map_or, option_map}
use Rattle.std.specs.List.{list_all}
use Rattle.std.proofs.lemmas.Bool.{and_from, or_left, or_right, or_cases}
use Rattle.std.proofs.lemmas.List.Folds.{list_any-append, list_all-append}
use Rattle.std.proofs.lemmas.Option.{none-some}
use lib.IntN.{ℤ}
use Rattle.e_literal.specs.declared.object.Kind.{Kind}
use Rattle.e_literal.specs.declared.object.Scope.{Scope}
use Rattle.e_literal.specs.declared.object.Term.{Term}
use Rattle.e_literal.specs.declared.object.Term.TheVariants.{Seg, Ang, Area, Right}
use Rattle.e_literal.specs.declared.literal.Lit.{Lit}
use Rattle.e_literal.specs.Literal.{all_in_scope}
use Rattle.e_literal.specs.Same.{term_eq, same_lit}
use Rattle.e_literal.specs.Width.{is_among}
use Rattle.e_literal.specs.Facts.{has, are_apart}
use Rattle.e_literal.specs.Rows.{Row, row_of_lit}
use Rattle.e_literal.specs.Absurd.{Weighed, is_absurd}
use Rattle.e_literal.proofs.Booleans.{and_left, and_right}
use Rattle.e_clause.specs.declared.cert.MetricCert.{MetricCert}
use Rattle.e_clause.specs.declared.cert.RowName.{RowName}
use Rattle.e_clause.specs.declared.cert.RowName.TheVariants.{Fact, Goal, Pos, Top, Right as RightRow, Least, Above, Below, FactAt}
use Rattle.e_clause.specs.declared.cert.Sums.{Sums}
use Rattle.e_clause.specs.declared.cert.Sums.TheVariants.{One, Two}
use Rattle.e_clause.specs.Assignment.{terms_of_lits, terms_of_wanted}
use Rattle.e_clause.specs.System.{pos_row, top_row, least_row}
use Rattle.e_clause.specs.Sum.{RowScope, is_step_term, fact_row, row_at, says_differ, unless_not, row_named, weighed_rows, is_limited_sum, refutes}
use Rattle.e_clause.specs.MetricCertificate.{differing_row, above_row, below_row, both_refute, sums_refute}
use Rattle.e_metric.specs.declared.kind_system.KindSystem.TheVariants.{Absurd}
use Rattle.e_metric.specs.SolvedSystems.{IsKindSystem}
use Rattle.e_metric.specs.MetricAnswers.{IsMetricCertificate}
use Rattle.e_metric.proofs.terms.FirstTerms.{lits_append}
use Rattle.e_metric.proofs.rows.Forms.{none_more}
use Rattle.e_metric.proofs.rows.RowsOfMoreFacts.{more_apart}

no_rows : (ws : List Weighed) → None ≡ Some ws → ⊥
no_rows ws h = absurd (cc)

-- a row that is there under a condition is there where the condition holds
where_so : (a b : Bool) (q r : Row) → (a ≡ true → b ≡ true) → cond a (Some q) None ≡ Some r → cond b (Some q) None ≡ Some r
where_so true b q r f h = ap (λ c. cond c (Some q) None) (f refl) ∙ h
where_so false b q r f h = absurd (none-some r h)

among_more : (xs ys : List Term) (t : Term) → is_among (xs ++ []) t ≡ true → is_among (xs ++ ys) t ≡ true
among_more [] ys t h = absurd (true≢false (sym h))
among_more (x ∷ xs) ys t h = elim (or_cases (term_eq t x) (is_among (xs ++ []) t) h) [
  | inl e ↦ or_left (term_eq t x) (is_among (xs ++ ys) t) e
  | inr k ↦ or_right (term_eq t x) (is_among (xs ++ ys) t) (among_more xs ys t k)
]

has_more : (facts more : List Lit) (l : Lit) → has facts l ≡ true → has (facts ++ more) l ≡ true
has_more facts more l h = list_any-append (λ f. same_lit f l) facts more ∙ ap (λ b. b || has more l) h

front_at : (facts more : List Lit) (k : ℕ) (l : Lit) → slice_get facts k ≡ Some l → slice_get (facts ++ more) k ≡ Some l
front_at [] more k l h = absurd (none-some l h)
front_at (f ∷ facts) more zero l h = h
front_at (f ∷ facts) more (suc k) l h = front_at facts more k l h

module _ (facts more : List Lit) (wanted : Option Lit) where
  all_terms : terms_of_lits (facts ++ more) ++ terms_of_wanted wanted ≡ terms_of_lits facts ++ (terms_of_lits more ++ terms_of_wanted wanted)
  all_terms = ap (λ ts. ts ++ terms_of_wanted wanted) (lits_append facts more) ∙ append_assoc (terms_of_lits facts) (terms_of_lits more) (terms_of_wanted wanted)

  -- the row of a fact
  fact_stays : (F : Option Row → Option Row) → ((r : Row) → F None ≡ Some r → ⊥) → (l : Lit) (r : Row) → F (fact_row facts l) ≡ Some r → F (fact_row (facts ++ more) l) ≡ Some r
  fact_stays F none l r h = by (has facts l) (has (facts ++ more) l) (has_more facts more l) h
    where
      by : (a b : Bool) → (a ≡ true → b ≡ true) → F (cond a (row_of_lit l) None) ≡ Some r → F (cond b (row_of_lit l) None) ≡ Some r
      by true b f k = ap (λ c. F (cond c (row_of_lit l) None)) (f refl) ∙ k
      by false b f k = absurd (none r k)

  at_stays : (F : Option Row → Option Row) → ((r : Row) → F None ≡ Some r → ⊥) → (k : ℕ) (r : Row) → F (row_at facts k) ≡ Some r → F (row_at (facts ++ more) k) ≡ Some r
  at_stays F none k r h = by (slice_get facts k) refl h
    where
      by : (o : Option Lit) → slice_get facts k ≡ o → F (option_and_then row_of_lit o) ≡ Some r → F (option_and_then row_of_lit (slice_get (facts ++ more) k)) ≡ Some r
      by None e m = absurd (none r m)
      by (Some l) e m = ap (λ (o : Option Lit). F (option_and_then row_of_lit o)) (front_at facts more k l e) ∙ m

  module _ (above below : Option Row) where
    abbrev alone : RowScope
    alone = record { facts = facts; wanted = None; above = above; below = below }

    abbrev beside_terms : RowScope
    beside_terms = record { facts = facts ++ more; wanted = wanted; above = above; below = below }

    step_term : (t : Term) → is_step_term alone t ≡ true → is_step_term beside_terms t ≡ true
    step_term t h = elim (or_cases (term_eq t Right) (is_among (terms_of_lits facts ++ []) t) h) [
      | inl e ↦ or_left (term_eq t Right) (is_among (terms_of_lits (facts ++ more) ++ terms_of_wanted wanted) t) e
      | inr k ↦ or_right (term_eq t Right) (is_among (terms_of_lits (facts ++ more) ++ terms_of_wanted wanted) t)
          (ap (λ ts. is_among ts t) all_terms ∙ among_more (terms_of_lits facts) (terms_of_lits more ++ terms_of_wanted wanted) t k)
    ]

    of_pos : (t : Term) (r : Row) → row_named alone (Pos t) ≡ Some r → row_named beside_terms (Pos t) ≡ Some r
    of_pos (Seg a b) r h =
        where_so (is_step_term alone (Seg a b) && are_apart facts a b) (is_step_term beside_terms (Seg a b) && are_apart (facts ++ more) a b) (pos_row (Seg a b)) r
        (λ e. and_from (is_step_term beside_terms (Seg a b)) (are_apart (facts ++ more) a b) (step_term (Seg a b) (and_left (is_step_term alone (Seg a b)) (are_apart facts a b) e))
        (more_apart facts more a b (and_right (is_step_term alone (Seg a b)) (are_apart facts a b) e))) h
    of_pos (Ang a b c) r h = h
    of_pos (Area a b c) r h = h
    of_pos Right r h = h

    of_top : (t : Term) (r : Row) → row_named alone (Top t) ≡ Some r → row_named beside_terms (Top t) ≡ Some r
    of_top (Seg a b) r h = h
    of_top (Ang a b c) r h = where_so (is_step_term alone (Ang a b c)) (is_step_term beside_terms (Ang a b c)) (top_row (Ang a b c)) r (step_term (Ang a b c)) h
    of_top (Area a b c) r h = h
    of_top Right r h = h

    same_row : (n : RowName) (r : Row) → row_named alone n ≡ Some r → row_named beside_terms n ≡ Some r
    same_row (Fact l) r h = fact_stays unless_not (λ q e. none-some q e) l r h
    same_row Goal r h = absurd (none-some r h)
    same_row (Pos t) r h = of_pos t r h
    same_row (Top t) r h = of_top t r h
    same_row RightRow r h = h
    same_row (Least t) r h = where_so (is_step_term alone t) (is_step_term beside_terms t) (least_row t) r (step_term t) h
    same_row Above r h = h
    same_row Below r h = h
    same_row (FactAt k) r h = at_stays unless_not (λ q e. none-some q e) k r h

    same_rows : (xs : List (ℤ × RowName)) (ws : List Weighed) → weighed_rows alone xs ≡ Some ws → weighed_rows beside_terms xs ≡ Some ws
    same_rows [] ws h = h
    same_rows (x ∷ xs) ws h = by (row_named alone x.1) (weighed_rows alone xs) refl refl h (λ rs f. same_rows xs rs f)
      where
        by : (o : Option Row) (q : Option (List Weighed)) → row_named alone x.1 ≡ o → weighed_rows alone xs ≡ q
            → option_and_then (λ r. option_map (λ rs. record { multiplier = x.0; row = r } ∷ rs) q) o ≡ Some ws
            → ((rs : List Weighed) → weighed_rows alone xs ≡ Some rs → weighed_rows beside_terms xs ≡ Some rs)
            → option_and_then (λ r. option_map (λ rs. record { multiplier = x.0; row = r } ∷ rs) (weighed_rows beside_terms xs)) (row_named beside_terms x.1) ≡ Some ws
        by None q e f k ih = absurd (no_rows ws k)
        by (Some r) None e f k ih = absurd (no_rows ws k)
        by (Some r) (Some rs) e f k ih =
            ap₂ {A = Option Row} {B = Option (List Weighed)} (λ o q. option_and_then (λ r. option_map (λ rs. record { multiplier = x.0; row = r } ∷ rs) q) o) (same_row x.1 r e) (ih rs f)
            ∙ k

    sum_wider : (xs : List (ℤ × RowName)) → refutes alone xs ≡ true → refutes beside_terms xs ≡ true
    sum_wider xs h =
        and_from (is_limited_sum xs) (option_map_or is_absurd (weighed_rows beside_terms xs) false)
        (and_left (is_limited_sum xs) (option_map_or is_absurd (weighed_rows alone xs) false) h)
        (by (weighed_rows alone xs) refl (and_right (is_limited_sum xs) (option_map_or is_absurd (weighed_rows alone xs) false) h))
      where
        by : (q : Option (List Weighed)) → weighed_rows alone xs ≡ q → option_map_or is_absurd q false ≡ true → option_map_or is_absurd (weighed_rows beside_terms xs) false ≡ true
        by None e k = absurd (true≢false (sym k))
        by (Some ws) e k = ap (λ q. option_map_or is_absurd q false) (same_rows xs ws e) ∙ k

  same_differing : (n : RowName) (r : Row) → differing_row facts None n ≡ Some r → differing_row (facts ++ more) wanted n ≡ Some r
  same_differing (Fact l) r h = fact_stays (option_and_then (λ (q : Row). cond (says_differ q.sense) (Some q) None)) (λ q e. none-some q e) l r h
  same_differing Goal r h = absurd (none-some r h)
  same_differing (Pos t) r h = h
  same_differing (Top t) r h = h
  same_differing RightRow r h = h
  same_differing (Least t) r h = h
  same_differing Above r h = h
  same_differing Below r h = h
  same_differing (FactAt k) r h = at_stays (option_and_then (λ (q : Row). cond (says_differ q.sense) (Some q) None)) (λ q e. none-some q e) k r h

  sums_wider : (s : Sums) → sums_refute facts None s ≡ true → sums_refute (facts ++ more) wanted s ≡ true
  sums_wider (One sum) h = sum_wider None None sum h
  sums_wider (Two differs first second) h = by (differing_row facts None differs) refl h
    where
      by : (o : Option Row) → differing_row facts None differs ≡ o → option_map_or (λ r. both_refute facts None r first second) o false ≡ true
          → option_map_or (λ r. both_refute (facts ++ more) wanted r first second) (differing_row (facts ++ more) wanted differs) false ≡ true
      by None e k = absurd (true≢false (sym k))
      by (Some r) e k =
          (let above_alone : RowScope = record { facts = facts; wanted = None; above = Some (above_row r); below = None } in
          let below_alone : RowScope = record { facts = facts; wanted = None; above = None; below = Some (below_row r) } in
          ap (λ (o : Option Row). option_map_or (λ q. both_refute (facts ++ more) wanted q first second) o false) (same_differing differs r e)
          ∙ and_from (refutes (beside_terms (Some (above_row r)) None) first) (refutes (beside_terms None (Some (below_row r))) second)
          (sum_wider (Some (above_row r)) None first (and_left (refutes above_alone first) (refutes below_alone second) k))
          (sum_wider None (Some (below_row r)) second (and_right (refutes above_alone first) (refutes below_alone second) k)))

  front_scoped : (s : Scope) → list_all (all_in_scope s) (facts ++ more) ≡ true → list_all (all_in_scope s) facts ≡ true
  front_scoped s k = and_left (list_all (all_in_scope s) facts) (list_all (all_in_scope s) more) (sym (list_all-append (all_in_scope s) facts more) ∙ k)

  pub certified_more : (m : MetricCert) → IsMetricCertificate facts None m → IsMetricCertificate (facts ++ more) wanted m
  certified_more m h = record { refutes = sums_wider m.sums h.refutes; scoped = λ s k g. h.scoped s (front_scoped s k) refl; written = h.written }

pub certified_wider : (facts : List Lit) (wanted : Option Lit) (m : MetricCert) → IsMetricCertificate facts None m → IsMetricCertificate facts wanted m
certified_wider facts wanted m h = subst (λ fs. IsMetricCertificate fs wanted m) (none_more facts) (certified_more facts [] wanted m h)

-- a certificate of the first facts is one of all
pub absurd_stays : (which : Kind) (facts : List Lit) (from : ℕ) (m : MetricCert) → IsKindSystem which (take from facts) (Absurd m) → IsKindSystem which facts (Absurd m)
absurd_stays which facts from m h = subst (λ fs. IsMetricCertificate fs None m) (take-append-drop from facts) (certified_more (take from facts) (drop from facts) None m h)
