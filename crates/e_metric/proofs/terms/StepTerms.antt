-- The terms of a step, and their values in a list.
use Rattle.std.proofs.Common.{◌≡◌, ℕ, ◌+◌, List, [], ◌∷◌, ◌++◌, map, take, refl, sym, ap, ◌∙◌, Bool, true, false, cond, true≢false, Option, Some, append_assoc, ◌⊎◌, inl, inr}
use Rattle.std.specs.Prelude.{slice_get}
use Rattle.std.specs.List.{list_all}
use Rattle.std.proofs.lemmas.Bool.{or_left, or_right, or_cases}
use Rattle.std.proofs.lemmas.List.{map-append}
use Rattle.e_literal.specs.declared.object.Kind.{Kind}
use Rattle.e_literal.specs.declared.object.Mono.{Mono}
use Rattle.e_literal.specs.declared.object.Term.{Term}
use Rattle.e_literal.specs.declared.object.Term.TheVariants.{Right}
use Rattle.e_literal.specs.declared.literal.Lit.{Lit}
use Rattle.e_literal.specs.Same.{canonical, term_eq}
use Rattle.e_literal.specs.Width.{is_among}
use Rattle.e_literal.specs.Rows.{is_degenerate}
use Rattle.e_literal.specs.WellFormed.{is_well_formed}
use Rattle.e_literal.specs.Solution.{Satisfy, values_for_all}
use Rattle.e_literal.proofs.Terms.{term_eq_is, equal_terms}
use Rattle.e_literal.proofs.CanonicalTerms.{canonical_twice, degenerate_canonical}
use Rattle.e_clause.specs.Assignment.{terms_of_atom, terms_of_lits, terms_of_wanted, terms_of_step}
use Rattle.e_clause.specs.Laws.{is_well_formed_metric}
use Rattle.e_clause.specs.System.{by_kind, rows_of_system}
use Rattle.e_clause.specs.Counterexample.{value_in, are_in_order, listed_terms, ListsCounterexample}
use Rattle.e_clause.proofs.Carried.{counterexample_of}
use Rattle.e_metric.specs.declared.by_kind.ByKind.{ByKind}
use Rattle.e_metric.specs.inner.AssignedValues.{values_of, step_value}
use Rattle.e_metric.proofs.rows.Forms.{none_more}
use Rattle.e_metric.proofs.terms.FirstTerms.{take_one, lits_append}

canonical_sum : (ms : List Mono) → map canonical (map (λ (m : Mono). m.term) ms) ≡ map (λ (m : Mono). canonical m.term) ms
canonical_sum [] = refl
canonical_sum (m ∷ ms) = ap (λ ts. canonical m.term ∷ ts) (canonical_sum ms)

pub atom_terms : (seen : List Term) (x y : List Mono) → seen ++ map canonical (map (λ (m : Mono). m.term) (x ++ y)) ≡ (seen ++ map (λ (m : Mono). canonical m.term) x) ++ map (λ (m : Mono). canonical m.term) y
atom_terms seen x y =
    ap (λ ts. seen ++ ts) (canonical_sum (x ++ y) ∙ map-append (λ (m : Mono). canonical m.term) x y)
    ∙ sym (append_assoc seen (map (λ (m : Mono). canonical m.term) x) (map (λ (m : Mono). canonical m.term) y))

pub fact_terms : (facts : List Lit) (i : ℕ) (l : Lit) → slice_get facts i ≡ Some l
    → map canonical (Right ∷ terms_of_lits (take (i + 1) facts)) ≡ map canonical (Right ∷ terms_of_lits (take i facts)) ++ map canonical (terms_of_atom l.atom)
fact_terms facts i l h =
    ap (λ ls. map canonical (Right ∷ terms_of_lits ls)) (take_one facts i l h)
    ∙ ap (λ ts. map canonical (Right ∷ ts)) (lits_append (take i facts) (l ∷ []) ∙ ap (λ ts. terms_of_lits (take i facts) ++ ts) (none_more (terms_of_atom l.atom)))
    ∙ map-append canonical (Right ∷ terms_of_lits (take i facts)) (terms_of_atom l.atom)

pub step_terms : (facts : List Lit) (wanted : Option Lit) → map canonical (terms_of_step facts wanted) ≡ map canonical (Right ∷ terms_of_lits facts) ++ map canonical (terms_of_wanted wanted)
step_terms facts wanted = map-append canonical (Right ∷ terms_of_lits facts) (terms_of_wanted wanted)

-- ---- values in a list

listed : (f : Term → ℕ) (ts : List Term) → listed_terms (map (λ t. (t, f t)) ts) ≡ ts
listed f [] = refl
listed f (t ∷ ts) = ap (λ us. t ∷ us) (listed f ts)

found : (f : Term → ℕ) (ts : List Term) (t : Term) → is_among ts (canonical t) ≡ true → value_in (map (λ u. (u, f u)) ts) t ≡ f (canonical t)
found f [] t h = absurd (true≢false (sym h))
found f (u ∷ us) t h = by (term_eq (canonical t) u) refl (or_cases (term_eq (canonical t) u) (is_among us (canonical t)) h) (λ k. found f us t k)
  where
    by : (b : Bool) → term_eq (canonical t) u ≡ b → (term_eq (canonical t) u ≡ true) ⊎ (is_among us (canonical t) ≡ true)
        → (is_among us (canonical t) ≡ true → value_in (map (λ v. (v, f v)) us) t ≡ f (canonical t)) → cond b (f u) (value_in (map (λ v. (v, f v)) us) t) ≡ f (canonical t)
    by true e k ih = ap f (sym (term_eq_is (canonical t) u e))
    by false e (inl k) ih = absurd (true≢false (sym k ∙ e))
    by false e (inr k) ih = ih k

carried_canonical : (w : Term → ℕ) (t : Term) → values_for_all w (canonical t) ≡ values_for_all w t
carried_canonical w t =
    ap (λ b. cond b 0 (w (canonical (canonical t)))) (degenerate_canonical t) ∙ ap (λ u. cond (is_degenerate t) 0 (w u)) (canonical_twice t)

pub among_map : (ts : List Term) (t : Term) → is_among ts t ≡ true → is_among (map canonical ts) (canonical t) ≡ true
among_map [] t h = absurd (true≢false (sym h))
among_map (u ∷ us) t h = elim (or_cases (term_eq t u) (is_among us t) h) [
  | inl e ↦ or_left (term_eq (canonical t) (canonical u)) (is_among (map canonical us) (canonical t)) (equal_terms (canonical t) (canonical u) (ap canonical (term_eq_is t u e)))
  | inr k ↦ or_right (term_eq (canonical t) (canonical u)) (is_among (map canonical us) (canonical t)) (among_map us t k)
]

pub lists : (facts : List Lit) (wanted : Option Lit) (solutions : ByKind (List (Term × ℕ))) (terms : List Term) (values : List (Term × ℕ))
    → list_all is_well_formed facts ≡ true → is_well_formed_metric wanted ≡ true → ((which : Kind) → Satisfy (values_of solutions which) (rows_of_system which facts wanted))
    → are_in_order terms ≡ true → ((t : Term) → is_among terms t ≡ is_among (map canonical (terms_of_step facts wanted)) t)
    → values ≡ map (λ t. (t, step_value solutions t)) terms → ListsCounterexample facts wanted values
lists facts wanted solutions terms values good good_wanted solved ordered same is =
    (let f = step_value solutions in
    let names : listed_terms values ≡ terms = ap listed_terms is ∙ listed (step_value solutions) terms in
    record {
      in_order = ap are_in_order names ∙ ordered;
      of_step = λ t. ap (λ ts. is_among ts t) names ∙ same t;
      counterexample = counterexample_of facts wanted (values_of solutions) (value_in values) good good_wanted solved
          (λ t h. ap (λ vs. value_in vs t) is
          ∙ found (step_value solutions) terms t (same (canonical t) ∙ among_map (terms_of_step facts wanted) t h)
          ∙ carried_canonical (by_kind (values_of solutions)) t);
    })
