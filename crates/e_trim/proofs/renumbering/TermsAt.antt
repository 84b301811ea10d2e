-- Terms over other numbers, by a map that keeps the order, and on some numbers tells them apart.
use Rattle.std.proofs.Common.{◌≡◌, ℕ, ◌≤◌, refl, sym, ap, ◌∙◌, subst, arith, ◌&&◌, ◌||◌, eqb, inl, inr, min, max}
use Rattle.std.proofs.lemmas.Bool.{cases_lt}
use Rattle.e_literal.specs.declared.object.Term.{Term}
use Rattle.e_literal.specs.declared.object.Term.TheVariants.{Seg, Ang, Area, Right}
use Rattle.e_literal.specs.Rename.{term_at}
use Rattle.e_literal.specs.Same.{canonical, term_eq, one_term}
use Rattle.e_literal.specs.Rows.{is_degenerate}

-- the map keeps the order, and tells these numbers apart
pub record Keeps (p : ℕ → ℕ) (K : ℕ → Type 0) : Type 0 where
  pub grows : (m n : ℕ) → m ≤ n → p m ≤ p n
  pub same : (m n : ℕ) → K m → K n → eqb (p m) (p n) ≡ eqb m n

module _ (p : ℕ → ℕ) (grows : (m n : ℕ) → m ≤ n → p m ≤ p n) where
  pub min_at : (a b : ℕ) → min (p a) (p b) ≡ p (min a b)
  min_at a b = elim (cases_lt a b) [
    | inl l ↦ let e : min a b ≡ a = omega (arith, l) in let g = grows a b (omega (arith, l)) in let f : min (p a) (p b) ≡ p a = omega (arith, g) in f ∙ sym (ap p e)
    | inr l ↦ let e : min a b ≡ b = omega (arith, l) in let g = grows b a l in let f : min (p a) (p b) ≡ p b = omega (arith, g) in f ∙ sym (ap p e)
  ]

  pub max_at : (a b : ℕ) → max (p a) (p b) ≡ p (max a b)
  max_at a b = elim (cases_lt a b) [
    | inl l ↦ let e : max a b ≡ b = omega (arith, l) in let g = grows a b (omega (arith, l)) in let f : max (p a) (p b) ≡ p b = omega (arith, g) in f ∙ sym (ap p e)
    | inr l ↦ let e : max a b ≡ a = omega (arith, l) in let g = grows b a l in let f : max (p a) (p b) ≡ p a = omega (arith, g) in f ∙ sym (ap p e)
  ]

  -- the normal order of points stays
  pub canonical_at : (t : Term) → canonical (term_at p t) ≡ term_at p (canonical t)
  canonical_at (Seg a b) = ap (λ x. Seg x (max (p a) (p b))) (min_at a b) ∙ ap (Seg (p (min a b))) (max_at a b)
  canonical_at (Ang a b c) = ap (λ x. Ang x (p b) (max (p a) (p c))) (min_at a c) ∙ ap (Ang (p (min a c)) (p b)) (max_at a c)
  canonical_at (Area a b c) =
      let least : min (min (p a) (p b)) (p c) ≡ p (min (min a b) c) = ap (λ x. min x (p c)) (min_at a b) ∙ min_at (min a b) c in
      let other : min (max (p a) (p b)) (p c) ≡ p (min (max a b) c) = ap (λ x. min x (p c)) (max_at a b) ∙ min_at (max a b) c in
      let middle : max (min (p a) (p b)) (min (max (p a) (p b)) (p c)) ≡ p (max (min a b) (min (max a b) c)) =
      ap (λ x. max x (min (max (p a) (p b)) (p c))) (min_at a b) ∙ ap (max (p (min a b))) other ∙ max_at (min a b) (min (max a b) c) in
      let most : max (max (p a) (p b)) (p c) ≡ p (max (max a b) c) = ap (λ x. max x (p c)) (max_at a b) ∙ max_at (max a b) c in
      ap (λ x. Area x (max (min (p a) (p b)) (min (max (p a) (p b)) (p c))) (max (max (p a) (p b)) (p c))) least
      ∙ ap (λ x. Area (p (min (min a b) c)) x (max (max (p a) (p b)) (p c))) middle
      ∙ ap (Area (p (min (min a b) c)) (p (max (min a b) (min (max a b) c)))) most
  canonical_at Right = refl

-- ---- over some numbers

abbrev pub Over : (ℕ → Type 0) → Term → Type 0
Over K (Seg a b) = K a × K b
Over K (Ang a b c) = K a × K b × K c
Over K (Area a b c) = K a × K b × K c
Over K Right = Unit {0}

module _ (K : ℕ → Type 0) where
  min_over : (a b : ℕ) → K a → K b → K (min a b)
  min_over a b h k = elim (cases_lt a b) [
    | inl l ↦ let e : min a b ≡ a = omega (arith, l) in subst K (sym e) h
    | inr l ↦ let e : min a b ≡ b = omega (arith, l) in subst K (sym e) k
  ]

  max_over : (a b : ℕ) → K a → K b → K (max a b)
  max_over a b h k = elim (cases_lt a b) [
    | inl l ↦ let e : max a b ≡ b = omega (arith, l) in subst K (sym e) k
    | inr l ↦ let e : max a b ≡ a = omega (arith, l) in subst K (sym e) h
  ]

  pub canonical_over : (t : Term) → Over K t → Over K (canonical t)
  canonical_over (Seg a b) h = (min_over a b h.0 h.1, max_over a b h.0 h.1)
  canonical_over (Ang a b c) h = (min_over a c h.0 h.2, h.1, max_over a c h.0 h.2)
  canonical_over (Area a b c) h =
      let low = min_over a b h.0 h.1 in let high = max_over a b h.0 h.1 in
      (min_over (min a b) c low h.2, max_over (min a b) (min (max a b) c) low (min_over (max a b) c high h.2), max_over (max a b) c high h.2)
  canonical_over Right h = tt

module _ (p : ℕ → ℕ) (K : ℕ → Type 0) (keeps : Keeps p K) where
  two_at : (a b c d : ℕ) → K a → K b → K c → K d → (eqb (p a) (p c) && eqb (p b) (p d)) ≡ (eqb a c && eqb b d)
  two_at a b c d ha hb hc hd = ap (λ x. x && eqb (p b) (p d)) (keeps.same a c ha hc) ∙ ap (λ x. eqb a c && x) (keeps.same b d hb hd)

  three_at : (a b c d e f : ℕ) → K a → K b → K c → K d → K e → K f → (eqb (p a) (p d) && (eqb (p b) (p e) && eqb (p c) (p f))) ≡ (eqb a d && (eqb b e && eqb c f))
  three_at a b c d e f ha hb hc hd he hf = ap (λ x. x && (eqb (p b) (p e) && eqb (p c) (p f))) (keeps.same a d ha hd) ∙ ap (λ x. eqb a d && x) (two_at b c e f hb hc he hf)

  pub term_eq_at : (s t : Term) → Over K s → Over K t → term_eq (term_at p s) (term_at p t) ≡ term_eq s t
  term_eq_at (Seg a b) (Seg c d) h k = two_at a b c d h.0 h.1 k.0 k.1
  term_eq_at (Ang a b c) (Ang d e f) h k = three_at a b c d e f h.0 h.1 h.2 k.0 k.1 k.2
  term_eq_at (Area a b c) (Area d e f) h k = three_at a b c d e f h.0 h.1 h.2 k.0 k.1 k.2
  term_eq_at (Seg a b) (Ang d e f) h k = refl
  term_eq_at (Seg a b) (Area d e f) h k = refl
  term_eq_at (Seg a b) Right h k = refl
  term_eq_at (Ang a b c) (Seg d e) h k = refl
  term_eq_at (Ang a b c) (Area d e f) h k = refl
  term_eq_at (Ang a b c) Right h k = refl
  term_eq_at (Area a b c) (Seg d e) h k = refl
  term_eq_at (Area a b c) (Ang d e f) h k = refl
  term_eq_at (Area a b c) Right h k = refl
  term_eq_at Right (Seg d e) h k = refl
  term_eq_at Right (Ang d e f) h k = refl
  term_eq_at Right (Area d e f) h k = refl
  term_eq_at Right Right h k = refl

  -- terms that are one term, and no others, are one term still
  pub one_term_at : (s t : Term) → Over K s → Over K t → one_term (term_at p s) (term_at p t) ≡ one_term s t
  one_term_at s t h k =
      ap (λ x. term_eq x (canonical (term_at p t))) (canonical_at p keeps.grows s)
      ∙ ap (term_eq (term_at p (canonical s))) (canonical_at p keeps.grows t)
      ∙ term_eq_at (canonical s) (canonical t) (canonical_over K s h) (canonical_over K t k)

  pub degenerate_at : (t : Term) → Over K t → is_degenerate (term_at p t) ≡ is_degenerate t
  degenerate_at (Seg a b) h = keeps.same a b h.0 h.1
  degenerate_at (Ang a b c) h = refl
  degenerate_at (Area a b c) h =
      ap (λ x. x || (eqb (p b) (p c) || eqb (p a) (p c))) (keeps.same a b h.0 h.1)
      ∙ ap (λ x. eqb a b || (x || eqb (p a) (p c))) (keeps.same b c h.1 h.2)
      ∙ ap (λ x. eqb a b || (eqb b c || x)) (keeps.same a c h.0 h.2)
  degenerate_at Right h = refl
