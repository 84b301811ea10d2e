-- Metric atoms over other numbers are the same where they were.
use Rattle.std.proofs.Common.{◌≡◌, ℕ, ◌+◌, List, [], ◌∷◌, map, refl, ap, ◌∙◌, ◌&&◌, cond}
use Rattle.e_literal.specs.declared.object.Term.{Term}
use Rattle.e_literal.specs.declared.object.Mono.{Mono}
use Rattle.e_literal.specs.Rename.{term_at, mono_at}
use Rattle.e_literal.specs.Same.{one_term, coeff_of, agree_at, agree_on, agree}
use Rattle.e_trim.proofs.renumbering.TermsAt.{Keeps, Over, one_term_at}

abbrev pub OverSum : (ℕ → Type 0) → List Mono → Type 0
OverSum K [] = Unit {0}
OverSum K (m ∷ ms) = Over K m.term × OverSum K ms

module _ (p : ℕ → ℕ) (K : ℕ → Type 0) (keeps : Keeps p K) where
  pub coeff_stays : (ms : List Mono) (t : Term) → OverSum K ms → Over K t → coeff_of (map (mono_at p) ms) (term_at p t) ≡ coeff_of ms t
  coeff_stays [] t h k = refl
  coeff_stays (m ∷ ms) t h k =
      ap (λ b. cond b m.coeff 0 + coeff_of (map (mono_at p) ms) (term_at p t)) (one_term_at p K keeps m.term t h.0 k)
      ∙ ap (λ n. cond (one_term m.term t) m.coeff 0 + n) (coeff_stays ms t h.1 k)

  agree_at_stays : (x y z w : List Mono) (t : Term) → OverSum K x → OverSum K y → OverSum K z → OverSum K w → Over K t
      → agree_at (map (mono_at p) x) (map (mono_at p) y) (map (mono_at p) z) (map (mono_at p) w) (term_at p t) ≡ agree_at x y z w t
  agree_at_stays x y z w t hx hy hz hw h =
      let a = coeff_stays x t hx h in let b = coeff_stays y t hy h in let c = coeff_stays z t hz h in let d = coeff_stays w t hw h in
      rw (a, b, c, d) refl

  agree_on_stays : (x y z w ms : List Mono) → OverSum K x → OverSum K y → OverSum K z → OverSum K w → OverSum K ms
      → agree_on (map (mono_at p) x) (map (mono_at p) y) (map (mono_at p) z) (map (mono_at p) w) (map (mono_at p) ms) ≡ agree_on x y z w ms
  agree_on_stays x y z w [] hx hy hz hw h = refl
  agree_on_stays x y z w (m ∷ ms) hx hy hz hw h =
      ap (λ b. b && agree_on (map (mono_at p) x) (map (mono_at p) y) (map (mono_at p) z) (map (mono_at p) w) (map (mono_at p) ms)) (agree_at_stays x y z w m.term hx hy hz hw h.0)
      ∙ ap (λ b. agree_at x y z w m.term && b) (agree_on_stays x y z w ms hx hy hz hw h.1)

  -- two sums that agree, and no others, agree still
  pub agree_stays : (x y z w : List Mono) → OverSum K x → OverSum K y → OverSum K z → OverSum K w
      → agree (map (mono_at p) x) (map (mono_at p) y) (map (mono_at p) z) (map (mono_at p) w) ≡ agree x y z w
  agree_stays x y z w hx hy hz hw =
      let a = agree_on_stays x y z w x hx hy hz hw hx in
      let b = agree_on_stays x y z w y hx hy hz hw hy in
      let c = agree_on_stays x y z w z hx hy hz hw hz in
      let d = agree_on_stays x y z w w hx hy hz hw hw in
      rw (a, b, c, d) refl
