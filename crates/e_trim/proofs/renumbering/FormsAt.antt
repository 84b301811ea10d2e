-- Rows over other numbers: their forms, and sums of them that are absurd.
use Rattle.std.proofs.Common.{◌≡◌, ℕ, List, [], ◌∷◌, map, filter, refl, ap, ◌∙◌, Bool, true, false, not, cond, ℤ}
use Rattle.std.specs.Prelude.{pos, ◌+ℤ◌, ◌*ℤ◌, neg_ℤ}
use Rattle.e_literal.specs.declared.object.Term.{Term}
use Rattle.e_literal.specs.declared.object.Mono.{Mono}
use Rattle.e_literal.specs.Rename.{term_at, mono_at}
use Rattle.e_literal.specs.Same.{canonical, term_eq}
use Rattle.e_literal.specs.Rows.{Row, Summands, coefficient, times, is_degenerate, normal_summands, plus, minus, negative}
use Rattle.e_literal.specs.Absurd.{Weighed, total}
use Rattle.e_trim.proofs.renumbering.TermsAt.{Keeps, Over, canonical_at, term_eq_at, degenerate_at}

abbrev pub form_at : (ℕ → ℕ) → Summands → Summands
form_at p form = map (λ q. times q.0 (term_at p q.1)) form

abbrev pub OverForm : (ℕ → Type 0) → Summands → Type 0
OverForm K [] = Unit {0}
OverForm K (q ∷ form) = Over K q.1 × OverForm K form

pub plus_at : (p : ℕ → ℕ) (ms : List Mono) → plus (map (mono_at p) ms) ≡ form_at p (plus ms)
plus_at p [] = refl
plus_at p (m ∷ ms) = ap (λ f. times (pos m.coeff) (term_at p m.term) ∷ f) (plus_at p ms)

pub minus_at : (p : ℕ → ℕ) (ms : List Mono) → minus (map (mono_at p) ms) ≡ form_at p (minus ms)
minus_at p [] = refl
minus_at p (m ∷ ms) = ap (λ f. times (neg_ℤ (pos m.coeff)) (term_at p m.term) ∷ f) (minus_at p ms)

pub negative_at : (p : ℕ → ℕ) (form : Summands) → negative (form_at p form) ≡ form_at p (negative form)
negative_at p [] = refl
negative_at p (q ∷ form) = ap (λ f. times (neg_ℤ q.0) (term_at p q.1) ∷ f) (negative_at p form)

module _ (p : ℕ → ℕ) (K : ℕ → Type 0) (keeps : Keeps p K) where
  normal_step : (b : Bool) (q : ℤ × Term) (form rest : Summands) → normal_summands rest ≡ form_at p (normal_summands form)
      → map (λ (r : ℤ × Term). times r.0 (canonical r.1)) (cond b (times q.0 (term_at p q.1) ∷ filter (λ (r : ℤ × Term). not (is_degenerate r.1)) rest) (filter (λ (r : ℤ × Term). not (is_degenerate r.1)) rest))
      ≡ form_at p (map (λ (r : ℤ × Term). times r.0 (canonical r.1)) (cond b (q ∷ filter (λ (r : ℤ × Term). not (is_degenerate r.1)) form) (filter (λ (r : ℤ × Term). not (is_degenerate r.1)) form)))
  normal_step true q form rest h = ap (λ t. times q.0 t ∷ normal_summands rest) (canonical_at p keeps.grows q.1) ∙ ap (λ f. times q.0 (term_at p (canonical q.1)) ∷ f) h
  normal_step false q form rest h = h

  -- what is joined and dropped stays so
  pub normal_stays : (form : Summands) → OverForm K form → normal_summands (form_at p form) ≡ form_at p (normal_summands form)
  normal_stays [] h = refl
  normal_stays (q ∷ form) h =
      ap (λ b. map (λ (r : ℤ × Term). times r.0 (canonical r.1)) (cond (not b) (times q.0 (term_at p q.1) ∷ filter (λ (r : ℤ × Term). not (is_degenerate r.1)) (form_at p form)) (filter (λ (r : ℤ × Term). not (is_degenerate r.1)) (form_at p form)))) (degenerate_at p K keeps q.1 h.0)
      ∙ normal_step (not (is_degenerate q.1)) q form (form_at p form) (normal_stays form h.1)

  pub coefficient_stays : (form : Summands) (t : Term) → OverForm K form → Over K t → coefficient (form_at p form) (term_at p t) ≡ coefficient form t
  coefficient_stays [] t h k = refl
  coefficient_stays (q ∷ form) t h k =
      ap (λ b. cond b q.0 (pos 0) +ℤ coefficient (form_at p form) (term_at p t)) (term_eq_at p K keeps q.1 t h.0 k)
      ∙ ap (λ n. cond (term_eq q.1 t) q.0 (pos 0) +ℤ n) (coefficient_stays form t h.1 k)

  abbrev pub row_at : Row → Row
  row_at r = record { sense = r.sense; form = form_at p r.form }

  abbrev pub weighed_at : Weighed → Weighed
  weighed_at w = record { multiplier = w.multiplier; row = row_at w.row }

  abbrev pub OverRows : List Weighed → Type 0
  OverRows [] = Unit {0}
  OverRows (w ∷ ws) = OverForm K w.row.form × OverRows ws

  -- the coefficient of a term in a sum stays
  pub total_stays : (ws : List Weighed) (t : Term) → OverRows ws → Over K t → total (map weighed_at ws) (term_at p t) ≡ total ws t
  total_stays [] t h k = refl
  total_stays (w ∷ ws) t h k =
      ap (λ n. w.multiplier *ℤ n +ℤ total (map weighed_at ws) (term_at p t)) (coefficient_stays w.row.form t h.0 k)
      ∙ ap (λ n. w.multiplier *ℤ coefficient w.row.form t +ℤ n) (total_stays ws t h.1 k)
