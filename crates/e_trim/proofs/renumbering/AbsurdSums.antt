-- A sum over other numbers is absurd where it was.
use Rattle.std.proofs.Common.{◌≡◌, ℕ, List, [], ◌∷◌, ◌++◌, map, refl, sym, ap, ◌∙◌, ◌&&◌, ◌||◌, ℤ}
use Rattle.std.specs.Prelude.{pos}
use Rattle.std.specs.List.{list_all, list_any}
use Rattle.std.specs.Ordering.{int_eq}
use Rattle.std.proofs.lemmas.List.{map-append}
use Rattle.e_literal.specs.declared.object.Term.{Term}
use Rattle.e_literal.specs.Rename.{term_at}
use Rattle.e_literal.specs.Rows.{Summands, terms_of_rows}
use Rattle.e_literal.specs.Absurd.{Weighed, total, allows_multiplier, is_strict, is_absurd}
use Rattle.e_trim.proofs.renumbering.TermsAt.{Keeps, Over}
use Rattle.e_trim.proofs.renumbering.FormsAt.{form_at, OverForm, weighed_at, OverRows, total_stays}

abbrev form_terms : Summands → List Term
form_terms form = map (λ (q : ℤ × Term). q.1) form

abbrev OverTerms : (ℕ → Type 0) → List Term → Type 0
OverTerms K [] = Unit {0}
OverTerms K (t ∷ ts) = Over K t × OverTerms K ts

over_more : (K : ℕ → Type 0) (ts us : List Term) → OverTerms K ts → OverTerms K us → OverTerms K (ts ++ us)
over_more K [] us h k = k
over_more K (t ∷ ts) us h k = (h.0, over_more K ts us h.1 k)

over_form : (K : ℕ → Type 0) (form : Summands) → OverForm K form → OverTerms K (form_terms form)
over_form K [] h = tt
over_form K (q ∷ form) h = (h.0, over_form K form h.1)

form_terms_at : (p : ℕ → ℕ) (form : Summands) → form_terms (form_at p form) ≡ map (term_at p) (form_terms form)
form_terms_at p [] = refl
form_terms_at p (q ∷ form) = ap (λ ts. term_at p q.1 ∷ ts) (form_terms_at p form)

abbrev terms : List Weighed → List Term
terms ws = terms_of_rows (map (λ (w : Weighed). w.row) ws)

module _ (p : ℕ → ℕ) (K : ℕ → Type 0) (keeps : Keeps p K) where
  terms_over : (ws : List Weighed) → OverRows p K keeps ws → OverTerms K (terms ws)
  terms_over [] h = tt
  terms_over (w ∷ ws) h = over_more K (form_terms w.row.form) (terms ws) (over_form K w.row.form h.0) (terms_over ws h.1)

  terms_at : (ws : List Weighed) → terms (map (weighed_at p K keeps) ws) ≡ map (term_at p) (terms ws)
  terms_at [] = refl
  terms_at (w ∷ ws) =
      ap (λ ts. ts ++ terms (map (weighed_at p K keeps) ws)) (form_terms_at p w.row.form)
      ∙ ap (λ ts. map (term_at p) (form_terms w.row.form) ++ ts) (terms_at ws)
      ∙ sym (map-append (term_at p) (form_terms w.row.form) (terms ws))

  cancel_at : (ws : List Weighed) (ts : List Term) → OverRows p K keeps ws → OverTerms K ts
      → list_all (λ t. int_eq (total (map (weighed_at p K keeps) ws) t) (pos 0)) (map (term_at p) ts) ≡ list_all (λ t. int_eq (total ws t) (pos 0)) ts
  cancel_at ws [] h k = refl
  cancel_at ws (t ∷ ts) h k =
      ap (λ n. int_eq n (pos 0) && list_all (λ t. int_eq (total (map (weighed_at p K keeps) ws) t) (pos 0)) (map (term_at p) ts)) (total_stays p K keeps ws t h k.0)
      ∙ ap (λ b. int_eq (total ws t) (pos 0) && b) (cancel_at ws ts h k.1)

  signs_at : (ws : List Weighed) → list_all (λ (w : Weighed). allows_multiplier w.row.sense w.multiplier) (map (weighed_at p K keeps) ws) ≡ list_all (λ (w : Weighed). allows_multiplier w.row.sense w.multiplier) ws
  signs_at [] = refl
  signs_at (w ∷ ws) = ap (λ b. allows_multiplier w.row.sense w.multiplier && b) (signs_at ws)

  strict_at : (ws : List Weighed) → list_any (λ (w : Weighed). is_strict w.row.sense w.multiplier) (map (weighed_at p K keeps) ws) ≡ list_any (λ (w : Weighed). is_strict w.row.sense w.multiplier) ws
  strict_at [] = refl
  strict_at (w ∷ ws) = ap (λ b. is_strict w.row.sense w.multiplier || b) (strict_at ws)

  pub absurd_stays : (ws : List Weighed) → OverRows p K keeps ws → is_absurd (map (weighed_at p K keeps) ws) ≡ is_absurd ws
  absurd_stays ws h =
      let a = ap (list_all (λ t. int_eq (total (map (weighed_at p K keeps) ws) t) (pos 0))) (terms_at ws) ∙ cancel_at ws (terms ws) h (terms_over ws h) in
      let b = signs_at ws in
      let c = strict_at ws in
      rw (a, b, c) refl
