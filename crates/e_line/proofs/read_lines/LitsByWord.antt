-- Literals by the word they begin with: what holds of the literals of each relation holds of every literal that is read.
use Rattle.std.proofs.Common.{◌≡◌, ℕ, Bool, true, false, cond, List, [], ◌∷◌, Result, Ok}
use Rattle.std.specs.Prelude.{codes}
use Rattle.std.specs.Str.{bytes_eq}
use Rattle.e_line.specs.declared.fault.FaultKind.{FaultKind}
use Rattle.e_line.specs.declared.literal.RawLit.{RawLit}
use Rattle.e_line.specs.declared.literal.RawAtom.{RawAtom}
use Rattle.e_line.specs.declared.literal.RawAtom.TheVariants as raw
use Rattle.e_line.specs.Reading.{◌>>=◌, two_names, three_names}
use Rattle.e_line.specs.Literals.{lit_of_sides, lit_with_neg, lit_by_first_word, lit_after_not, lit_of}
use Rattle.e_line.proofs.base.Bound.{read_ok}
use Rattle.e_line.proofs.base.Choices.{either, of_reading}

-- what holds of the literals of each relation, and of those that compare
pub record OfEachRelation (P : RawLit → Type 0) : Type 0 where
  pub of_on : (negated : Bool) (x y : List ℕ) → P (lit_with_neg negated (raw.On x y))
  pub of_inside : (negated : Bool) (x y : List ℕ) → P (lit_with_neg negated (raw.Inside x y))
  pub of_center : (negated : Bool) (x y : List ℕ) → P (lit_with_neg negated (raw.Center x y))
  pub of_between : (negated : Bool) (x y z : List ℕ) → P (lit_with_neg negated (raw.Between x y z))
  pub of_same_side : (negated : Bool) (x y z : List ℕ) → P (lit_with_neg negated (raw.Same x y z))
  pub of_meets : (negated : Bool) (x y : List ℕ) → P (lit_with_neg negated (raw.Meets x y))
  pub of_compared : (negated : Bool) (ws : List (List ℕ)) (l : RawLit) → lit_of_sides negated ws ≡ Ok l → P l

related_by_word : (P : RawLit → Type 0) → OfEachRelation P → (negated : Bool) (w : List ℕ) (ws : List (List ℕ)) (l : RawLit) → lit_by_first_word negated w ws ≡ Ok l → P l
unfolding lit_by_first_word
related_by_word P h negated w ws l e =
    let two : (List ℕ → List ℕ → RawAtom) → Result RawLit FaultKind = λ f. two_names ws >>= λ p. read_ok (lit_with_neg negated (f p.0 p.1)) in
    let three : (List ℕ → List ℕ → List ℕ → RawAtom) → Result RawLit FaultKind = λ f. three_names ws >>= λ p. read_ok (lit_with_neg negated (f p.0 p.1 p.2)) in
    let r6 : Result RawLit FaultKind = cond (bytes_eq w (codes "meets")) (two raw.Meets) (lit_of_sides negated (w ∷ ws)) in
    let r5 : Result RawLit FaultKind = cond (bytes_eq w (codes "same-side")) (three raw.Same) r6 in
    let r4 : Result RawLit FaultKind = cond (bytes_eq w (codes "between")) (three raw.Between) r5 in
    let r3 : Result RawLit FaultKind = cond (bytes_eq w (codes "center")) (two raw.Center) r4 in
    let r2 : Result RawLit FaultKind = cond (bytes_eq w (codes "inside")) (two raw.Inside) r3 in
    either P (bytes_eq w (codes "on")) (two raw.On) r2 l e (of_reading P (two_names ws) (λ p. lit_with_neg negated (raw.On p.0 p.1)) l (λ p k. h.of_on negated p.0 p.1)) (λ e1.
    either P (bytes_eq w (codes "inside")) (two raw.Inside) r3 l e1 (of_reading P (two_names ws) (λ p. lit_with_neg negated (raw.Inside p.0 p.1)) l (λ p k. h.of_inside negated p.0 p.1)) (λ e2.
    either P (bytes_eq w (codes "center")) (two raw.Center) r4 l e2 (of_reading P (two_names ws) (λ p. lit_with_neg negated (raw.Center p.0 p.1)) l (λ p k. h.of_center negated p.0 p.1)) (λ e3.
    either P (bytes_eq w (codes "between")) (three raw.Between) r5 l e3 (of_reading P (three_names ws) (λ p. lit_with_neg negated (raw.Between p.0 p.1 p.2)) l (λ p k. h.of_between negated p.0 p.1 p.2)) (λ e4.
    either P (bytes_eq w (codes "same-side")) (three raw.Same) r6 l e4 (of_reading P (three_names ws) (λ p. lit_with_neg negated (raw.Same p.0 p.1 p.2)) l (λ p k. h.of_same_side negated p.0 p.1 p.2)) (λ e5.
    either P (bytes_eq w (codes "meets")) (two raw.Meets) (lit_of_sides negated (w ∷ ws)) l e5 (of_reading P (two_names ws) (λ p. lit_with_neg negated (raw.Meets p.0 p.1)) l (λ p k. h.of_meets negated p.0 p.1)) (h.of_compared negated (w ∷ ws) l))))))

negated_by_word : (P : RawLit → Type 0) → OfEachRelation P → (ws : List (List ℕ)) (l : RawLit) → lit_after_not ws ≡ Ok l → P l
unfolding lit_after_not
negated_by_word P h [] l e = absurd cc
negated_by_word P h (w ∷ ws) l e = related_by_word P h true w ws l e

-- a literal that is read is one of a relation, or one that compares
pub lit_by_word : (P : RawLit → Type 0) → OfEachRelation P → (ws : List (List ℕ)) (l : RawLit) → lit_of ws ≡ Ok l → P l
unfolding lit_of
lit_by_word P h [] l e = absurd cc
lit_by_word P h (w ∷ ws) l e = either P (bytes_eq w (codes "not")) (lit_after_not ws) (lit_by_first_word false w ws) l e (negated_by_word P h ws l) (related_by_word P h false w ws l)
