-- Multipliers that refute rows may be summed.
use Rattle.std.proofs.Common.{◌≡◌, ℕ, zero, suc, ◌<◌, ◌≤◌, ◌^◌, List, [], ◌∷◌, length, get_or, refl, sym, ap, ◌∙◌, subst, arith, true, le-leb}
use Rattle.std.specs.Prelude.{neg_ℤ, unsigned_abs, nat_le, set}
use Rattle.std.proofs.lemmas.Bool.{and_from}
use Rattle.std.proofs.lemmas.List.{length-map}
use borrow.Author.Differences.{abs_is}
use lib.IntN.{ℤ, pos}
use Rattle.e_literal.specs.Rows.{Row}
use Rattle.e_literal.proofs.Arith.{sums}
use Rattle.e_fraction.specs.declared.row.Row.{Row as GivenRow}
use Rattle.e_fraction.specs.Limits.{all_small, small_multipliers}
use Rattle.e_fraction.specs.Views.{view_of_row, views_of_rows}
use Rattle.e_simplex.specs.Answer.{AreMultipliers, Refutes, IsNotAt, as_more, as_less, RefutesBoth}
use Rattle.e_metric.specs.inner.Certificate.{negated_place, IsWeighable}
use Rattle.e_metric.proofs.sums.SystemCertificates.{length_more, length_less, left_given, left_more, left_less}

taken_length : (rs : List Row) (ms : List ℤ) → AreMultipliers rs ms → length ms ≡ length rs
taken_length [] [] h = refl
taken_length [] (m ∷ ms) h = absurd h
taken_length (r ∷ rs) [] h = absurd h
taken_length (r ∷ rs) (m ∷ ms) h = ap suc (taken_length rs ms h.1)

good_given : (ms : List ℤ) → ((i : ℕ) → i < length ms → unsigned_abs (get_or ms i (pos 0)) ≤ 2 ^ 80) → small_multipliers ms ≡ true
good_given [] h = refl
good_given (m ∷ ms) h =
    and_from (nat_le (unsigned_abs m) (2 ^ 80)) (small_multipliers ms) (le-leb (unsigned_abs m) (2 ^ 80) (h 0 (omega arith))) (good_given ms (λ i l. h (suc i) (omega (arith, l))))

good_negated : (ms : List ℤ) (k : ℕ) → ((i : ℕ) → i < length ms → unsigned_abs (get_or ms i (pos 0)) ≤ 2 ^ 80) → small_multipliers (negated_place ms k) ≡ true
good_negated [] zero h = refl
good_negated [] (suc k) h = refl
good_negated (m ∷ ms) zero h =
    and_from (nat_le (unsigned_abs (neg_ℤ m)) (2 ^ 80)) (small_multipliers ms) (le-leb (unsigned_abs (neg_ℤ m)) (2 ^ 80) (omega (arith, sums, abs_is m, abs_is (neg_ℤ m), h 0 (omega arith)))) (good_given ms (λ i l. h (suc i) (omega (arith, l))))
good_negated (m ∷ ms) (suc k) h =
    and_from (nat_le (unsigned_abs m) (2 ^ 80)) (small_multipliers (negated_place ms k)) (le-leb (unsigned_abs m) (2 ^ 80) (h 0 (omega arith))) (good_negated ms k (λ i l. h (suc i) (omega (arith, l))))

length_negated : (ms : List ℤ) (k : ℕ) → length (negated_place ms k) ≡ length ms
length_negated [] zero = refl
length_negated [] (suc k) = refl
length_negated (m ∷ ms) zero = refl
length_negated (m ∷ ms) (suc k) = ap suc (length_negated ms k)

not_below : (rs : List Row) (k : ℕ) → IsNotAt rs k → k < length rs
not_below [] k h = absurd h
not_below (r ∷ rs) zero h = omega arith
not_below (r ∷ rs) (suc k) h = omega (arith, not_below rs k h)

-- ---- lists

pub set_twice : {X : Type 0} (xs : List X) (i : ℕ) (a b : X) → set (set xs i a) i b ≡ set xs i b
set_twice [] zero a b = refl
set_twice [] (suc i) a b = refl
set_twice (x ∷ xs) zero a b = refl
set_twice (x ∷ xs) (suc i) a b = ap (λ ys. x ∷ ys) (set_twice xs i a b)

-- ---- multipliers

module _ (rows : List GivenRow) (few : length rows ≤ 4096) (small : all_small rows ≡ true) where
  pub one_length : (ms : List ℤ) → Refutes (views_of_rows rows) ms → length ms ≡ length rows
  one_length ms h = taken_length (views_of_rows rows) ms h.taken ∙ length-map rows view_of_row

  pub one_weighable : (ms : List ℤ) → Refutes (views_of_rows rows) ms → IsWeighable rows ms
  one_weighable ms h = record {
    lengths = one_length ms h;
    few = few;
    coefficients = small;
    good = good_given ms h.small;
    left = λ t. subst (λ z. unsigned_abs z ≤ 2 ^ 80) (sym (left_given rows ms t)) (h.small_sums t);
  }

  module _ (k : ℕ) (above below : List ℤ) (h : RefutesBoth (views_of_rows rows) k above below) where
    pub both_here : k < length rows
    both_here = omega (arith, not_below (views_of_rows rows) k h.is_not, length-map rows view_of_row)

    pub above_length : length above ≡ length rows
    above_length = taken_length (as_more (views_of_rows rows) k) above h.above_refutes.taken ∙ length_more (views_of_rows rows) k ∙ length-map rows view_of_row

    pub below_length : length below ≡ length rows
    below_length = taken_length (as_less (views_of_rows rows) k) below h.below_refutes.taken ∙ length_less (views_of_rows rows) k ∙ length-map rows view_of_row

    pub below_small : unsigned_abs (get_or below k (pos 0)) ≤ 2 ^ 80
    below_small = h.below_refutes.small k (omega (arith, both_here, below_length))

    pub above_weighable : IsWeighable rows above
    above_weighable = record {
      lengths = above_length;
      few = few;
      coefficients = small;
      good = good_given above h.above_refutes.small;
      left = λ t. subst (λ z. unsigned_abs z ≤ 2 ^ 80) (sym (left_given rows above t ∙ left_more (views_of_rows rows) above k t)) (h.above_refutes.small_sums t);
    }

    pub below_weighable : IsWeighable rows (negated_place below k)
    below_weighable = record {
      lengths = length_negated below k ∙ below_length;
      few = few;
      coefficients = small;
      good = good_negated below k h.below_refutes.small;
      left = λ t. subst (λ z. unsigned_abs z ≤ 2 ^ 80) (sym (left_given rows (negated_place below k) t ∙ left_less (views_of_rows rows) below k t)) (h.below_refutes.small_sums t);
    }
