-- What is made of facts before goals are searched for.
use Rattle.std.proofs.Common.{◌≡◌, ℕ, List, [], ◌∷◌, ◌++◌, map, refl, sym, ap, ◌∙◌, length, Bool, true, false, ◌&&◌, ◌||◌, ◌==◌, cond, eqb-true, true≢false, inl, inr, None, arith}
use Rattle.std.specs.Prelude.{not}
use Rattle.std.specs.List.{list_all}
use Rattle.std.proofs.lemmas.Bool.{and_from, or_cases, cases_Bool}
use Rattle.e_literal.specs.declared.object.Term.{Term}
use Rattle.e_literal.specs.declared.object.Term.TheVariants.{Seg, Ang, Area, Right}
use Rattle.e_literal.specs.declared.literal.Lit.{Lit}
use Rattle.e_literal.specs.Rows.{is_degenerate}
use Rattle.e_literal.specs.Same.{canonical, term_eq}
use Rattle.e_literal.specs.Truth.{all_hold}
use Rattle.e_literal.specs.Width.{is_among}
use Rattle.e_literal.proofs.Booleans.{and_left, and_right}
use Rattle.e_literal.proofs.Terms.{among_first, among_rest}
use Rattle.e_clause.specs.Assignment.{terms_of_lits, terms_of_step, is_within, is_zero_if_degenerate, is_positive_if_apart, agrees_with}
use Rattle.e_clause.specs.Counterexample.{value_in, listed_terms, ListsCounterexample}
use Rattle.e_clause.proofs.Spread.{all_among, among_facts}
use Rattle.e_metric.proofs.terms.StepTerms.{among_map}
use Rattle.e_transfer.specs.declared.models.Filling.{Filling}
use Rattle.e_transfer.specs.declared.models.Filling.TheVariants.{Flat}
use Rattle.e_transfer.specs.Areas.{is_among_areas, name_areas_of}
use Rattle.e_transfer.specs.Marks.{is_area_term}
use Rattle.e_transfer.specs.Models.{value_in_list, value_when_canonical, is_flattened, value_by, fits_term, fits_terms, is_model}
use Rattle.e_transfer.proofs.FreeAreas.{model_alike}

-- what holds wherever a test holds
pub where_true : (a b : Bool) → (a ≡ true → b ≡ true) → (not a || b) ≡ true
where_true true b h = h refl
where_true false b h = refl

-- ---- values that list all terms of the facts

-- a term that is listed has one value, whatever the others have
own_value : (filling : Filling) (t : Term) (values : List (Term × ℕ)) → is_among (listed_terms values) (canonical t) ≡ true → value_in values t ≡ value_in_list filling values (canonical t)
own_value filling t [] among = absurd (true≢false (sym among))
own_value filling t (p ∷ ps) among = elim (or_cases (term_eq (canonical t) p.0) (is_among (listed_terms ps) (canonical t)) among) [
  | inl e ↦
      ap (λ b. cond b p.1 (value_in ps t)) e ∙ sym (ap (λ b. cond b p.1 (value_in_list filling ps (canonical t))) e)
  | inr later ↦ ap (λ m. cond (term_eq (canonical t) p.0) p.1 m) (own_value filling t ps later)
]

by_whole : (b : Bool) (x y : ℕ) → cond b (x == 0) true ≡ true → x ≡ y → x ≡ cond b 0 y
by_whole true x y zero e = eqb-true x 0 zero
by_whole false x y zero e = e

module _ (facts : List Lit) (values : List (Term × ℕ)) (lists : ListsCounterexample facts None values) where
  abbrev is_admissible_at : Term → Bool
  is_admissible_at t =
      is_within (value_in values) t && (is_zero_if_degenerate (value_in values) t && (is_positive_if_apart facts (value_in values) t && agrees_with (value_in values) (terms_of_step facts None) t))

  admissible_at : (t : Term) → is_among (terms_of_step facts None) t ≡ true → is_admissible_at t ≡ true
  admissible_at t among = all_among is_admissible_at (terms_of_step facts None) t lists.counterexample.is_admissible among

  fits_at : (t : Term) → is_among (terms_of_step facts None) t ≡ true → fits_term facts (value_in values) t ≡ true
  fits_at t among =
      let v = value_in values in
      let rest = is_zero_if_degenerate v t && (is_positive_if_apart facts v t && agrees_with v (terms_of_step facts None) t) in
      let later = and_right (is_within v t) rest (admissible_at t among) in
      and_from (is_within v t) (is_positive_if_apart facts v t) (and_left (is_within v t) rest (admissible_at t among))
      (and_left (is_positive_if_apart facts v t) (agrees_with v (terms_of_step facts None) t)
      (and_right (is_zero_if_degenerate v t) (is_positive_if_apart facts v t && agrees_with v (terms_of_step facts None) t) later))

  all_fit : (ts : List Term) → ((t : Term) → is_among ts t ≡ true → is_among (terms_of_step facts None) t ≡ true) → fits_terms facts (value_in values) ts ≡ true
  all_fit [] of_step = refl
  all_fit (t ∷ ts) of_step =
      and_from (fits_term facts (value_in values) t) (fits_terms facts (value_in values) ts) (fits_at t (of_step t (among_first t ts)))
      (all_fit ts (λ s a. of_step s (among_rest t ts s a)))

  agree : (filling : Filling) (t : Term) → is_flattened filling (canonical t) ≡ false → is_among (terms_of_step facts None) t ≡ true → value_in values t ≡ value_by filling values t
  agree filling t whole among =
      let v = value_in values in
      let rest = is_positive_if_apart facts v t && agrees_with v (terms_of_step facts None) t in
      by_whole (is_degenerate t) (v t) (value_when_canonical filling values (canonical t))
      (and_left (is_zero_if_degenerate v t) rest (and_right (is_within v t) (is_zero_if_degenerate v t && rest) (admissible_at t among)))
      (own_value filling t values (lists.of_step (canonical t) ∙ among_map (terms_of_step facts None) t among)
      ∙ sym (ap (λ b. cond b 0 (value_in_list filling values (canonical t))) whole))

  -- they are those of a model, whatever number the others have, where no term of the facts is to be
  -- 0 by that
  pub listed_model : (filling : Filling) → is_flattened filling Right ≡ false → ((t : Term) → is_among (terms_of_lits facts) t ≡ true → is_flattened filling (canonical t) ≡ false)
      → is_model facts (value_by filling values) ≡ true
  listed_model filling right whole =
      let v = value_in values in
      model_alike facts v (value_by filling values) (agree filling Right right (among_first Right (terms_of_lits facts ++ [])))
      (λ t a. agree filling t (whole t a) (among_facts facts None t a))
      (and_from (fits_term facts v Right) (fits_terms facts v (terms_of_lits facts) && all_hold v facts) (fits_at Right (among_first Right (terms_of_lits facts ++ [])))
      (and_from (fits_terms facts v (terms_of_lits facts)) (all_hold v facts) (all_fit (terms_of_lits facts) (λ t a. among_facts facts None t a)) lists.counterexample.facts_hold))

not_flat : (t : Term) → (not (is_area_term t) || false) ≡ true → is_flattened Flat (canonical t) ≡ false
not_flat (Seg a b) other = refl
not_flat (Ang a b c) other = refl
not_flat (Area a b c) other = absurd (true≢false (sym other))
not_flat Right other = refl

-- where the facts name no area, none of their terms is to be 0
pub none_flattened : (facts : List Lit) (areas : List Term) → (length areas == 0) ≡ true → name_areas_of areas facts ≡ true → (t : Term) → is_among (terms_of_lits facts) t ≡ true
    → is_flattened Flat (canonical t) ≡ false
none_flattened facts [] none named t among = not_flat t (all_among (λ s. not (is_area_term s) || is_among_areas [] s) (terms_of_lits facts) t named among)
none_flattened facts (a ∷ more) none named t among = absurd (let e = eqb-true (length (a ∷ more)) 0 none in omega (arith, e))
