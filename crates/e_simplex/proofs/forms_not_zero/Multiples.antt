-- The clauses of the least multiple that leaves no 0.
use Rattle.std.proofs.Common.{◌≡◌, ◌≢◌, ℕ, ◌+◌, ◌^◌, ◌<◌, ◌≤◌, List, ap, arith, sym, subst, get_or, ◌⊎◌, inl, inr, SFits}
use Rattle.std.specs.Prelude.{unsigned_abs, MatchOption}
use Rattle.std.specs.Int.{w128}
use Rattle.std.proofs.lemmas.Int.{fits_signed_from_abs, unsigned_abs-mul}
use Rattle.std.proofs.lemmas.Nat.{mul-le}
use Rattle.std.proofs.lemmas.Bool.{cases_lt, cases_eq}
use lib.IntN.{ℤ, pos, ◌+ℤ◌, ◌*ℤ◌, *ℤ-zero}
use borrow.Author.Differences.{abs_is}
use Rattle.std.proofs.Common.{[], ◌∷◌, ◌++◌, ◌∙◌, Option, None, Some}
use Rattle.std.proofs.lemmas.List.{length_push, get_or_push, get_or_append_left}
use Rattle.e_simplex.specs.inner.Multiple.{IsBad, NoneIsZero, entry_with_multiple, AddedTo}
use Rattle.e_literal.proofs.Arith.{sums}
use Rattle.e_simplex.proofs.forms_not_zero.Disequal.{some_good, one_bad}

pub multiple_size : (b : ℤ) (t : ℕ) → unsigned_abs b < 2 ^ 65 → t < 2 ^ 13 → unsigned_abs (pos t *ℤ b) ≤ 2 ^ 78
multiple_size b t h l =
    let le : t ≤ 2 ^ 13 = omega (arith, l) in
    let lb : unsigned_abs b ≤ 2 ^ 65 = omega (arith, h) in
    omega (arith, unsigned_abs-mul (pos t) b, mul-le t (unsigned_abs b) (2 ^ 13) (2 ^ 65) le lb)

pub added_size : (a x : ℤ) → unsigned_abs a < 2 ^ 90 → unsigned_abs x ≤ 2 ^ 78 → unsigned_abs (a +ℤ x) < 2 ^ 91
added_size a x h k = omega (arith, sums, h, k, abs_is a, abs_is x, abs_is (a +ℤ x))

pub fits_size : (z : ℤ) → unsigned_abs z < 2 ^ 126 → SFits w128 z
fits_size z h = fits_signed_from_abs w128 z (omega (arith, h))

module _ (first second : List ℤ) (k : ℕ) (before : (j : ℕ) → j < k → get_or first j (pos 0) ≢ pos 0)
    (bad : (s : ℕ) → 0 < s → s < k + 2 → (j : ℕ) × IsBad first second k s j) where
  row_of : (t : ℕ) → (t < k + 1) ⊎ (k + 1 ≤ t) → ℕ
  row_of t (inl l) = (bad (t + 1) (omega arith) (omega (arith, l))).0
  row_of t (inr l) = 0

  row_below : (t : ℕ) (c : (t < k + 1) ⊎ (k + 1 ≤ t)) → row_of t c < k
  unfolding row_of
  row_below t (inl l) = ((bad (t + 1) (omega arith) (omega (arith, l))).1).here
  row_below t (inr l) = omega (arith, ((bad 1 (omega arith) (omega arith)).1).here)

  row_bad : (t : ℕ) (c : (t < k + 1) ⊎ (k + 1 ≤ t)) → t < k + 1 → IsBad first second k (t + 1) (row_of t c)
  unfolding row_of
  row_bad t (inl l) m = (bad (t + 1) (omega arith) (omega (arith, l))).1
  row_bad t (inr l) m = absurd (omega (arith, l, m))

  one_time : (j s t : ℕ) → IsBad first second k (s + 1) j → IsBad first second k (t + 1) j → s ≡ t
  one_time j s t a b =
      let some : get_or second j (pos 0) ≢ pos 0 = λ e. before j a.here (omega (arith, sums, a.is_none, ap (λ v. pos (s + 1) *ℤ v) e, *ℤ-zero (pos (s + 1)))) in
      omega (arith, one_bad (get_or first j (pos 0)) (get_or second j (pos 0)) (s + 1) (t + 1) some a.is_none b.is_none)

  pub never_all_bad : ⊥
  never_all_bad =
      some_good k (λ j t. IsBad first second k (t + 1) j) one_time (λ t. row_of t (cases_lt t (k + 1)))
      (λ t. row_below t (cases_lt t (k + 1))) (λ t l. row_bad t (cases_lt t (k + 1)) l)

-- the first bad place below k, if there is one
pub bad_found : (first second : List ℤ) (k t : ℕ) (r : Option ℕ)
    → MatchOption r ((j : ℕ) → 0 ≤ j → j < k → entry_with_multiple first second t j ≢ pos 0) (λ i. (0 ≤ i) × (i < k) × (entry_with_multiple first second t i ≡ pos 0) × ((j : ℕ) → 0 ≤ j → j < i → entry_with_multiple first second t j ≢ pos 0))
    → MatchOption r (NoneIsZero first second k t) (IsBad first second k t)
bad_found first second k t None h = λ j less. h j (omega arith) less
bad_found first second k t (Some i) h = record { here = h.1; is_none = h.2 }

pub bad_more : (first second : List ℤ) (k t j : ℕ) → ((s : ℕ) → 0 < s → s < t → (i : ℕ) × IsBad first second k s i) → IsBad first second k t j
    → (s : ℕ) → 0 < s → s < t + 1 → (i : ℕ) × IsBad first second k s i
bad_more first second k t j h b s z l = elim (cases_eq s t) [
  | inl e ↦ (j, subst (λ v. IsBad first second k v j) (sym e) b)
  | inr d ↦ h s z (omega (arith, l, d))
]

pub added_more : (n : ℕ) (first second : List ℤ) (t : ℕ) (xs ys : List ℤ) (v : ℤ) → ys ≡ xs ++ v ∷ [] → AddedTo n first second t xs → v ≡ entry_with_multiple first second t n
    → AddedTo (n + 1) first second t ys
added_more n first second t xs ys v g h e = subst (AddedTo (n + 1) first second t) (sym g) (record {
  shape = omega (arith, length_push xs v, h.shape);
  each = λ j l. elim (cases_eq j n) [
    | inl q ↦ get_or_push xs v (pos 0) j (omega (arith, h.shape, q)) ∙ e ∙ ap (entry_with_multiple first second t) (sym q)
    | inr d ↦ get_or_append_left xs (v ∷ []) (pos 0) j (omega (arith, l, d, h.shape)) ∙ h.each j (omega (arith, l, d))
  ];
})
