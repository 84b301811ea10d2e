-- What the calls on sums compute, row by row.
use Rattle.std.proofs.Common.{◌≡◌, ℕ, zero, suc, ◌+◌, ◌*◌, ◌<◌, ◌≤◌, ◌^◌, List, [], ◌∷◌, map, length, take, get_or, refl, sym, ap, ◌∙◌, arith, Bool, true, false, not, cond, ◌&&◌, ◌||◌, true≢false, inl, inr, subst, leb-true}
use Rattle.std.specs.Prelude.{unsigned_abs, nat_le}
use Rattle.std.specs.List.{list_any, list_all, zip}
use Rattle.std.specs.Ordering.{int_eq}
use Rattle.std.proofs.lemmas.List.Folds.{list_all-append, list_all-map}
use Rattle.std.proofs.lemmas.Int.{unsigned_abs-mul}
use Rattle.std.proofs.lemmas.Nat.{mul-le}
use Rattle.std.proofs.lemmas.Bool.{cases_Bool, not-true}
use mathlib.Core.Bool.{and_comm}
use lib.IntN.{ℤ, pos, ◌+ℤ◌, ◌*ℤ◌}
use borrow.Author.Differences.{abs_is}
use Rattle.e_literal.specs.declared.object.Term.{Term}
use Rattle.e_literal.specs.Same.{term_eq}
use Rattle.e_literal.specs.Rows.{Summands, coefficient, terms_of_rows}
use Rattle.e_literal.specs.Absurd.{Weighed, total, allows_multiplier, is_strict, is_absurd}
use Rattle.e_fraction.specs.declared.row.Row.{Row as GivenRow}
use Rattle.e_fraction.specs.Distinct.{have_distinct_terms}
use Rattle.e_fraction.specs.Limits.{has_small_coefficients, all_small, small_multipliers}
use Rattle.e_fraction.specs.Views.{sense_of, view_of_row, views_of_rows, with_multipliers}
use Rattle.e_literal.proofs.Arith.{sums}
use Rattle.e_literal.proofs.Terms.{term_eq_is}
use Rattle.e_literal.proofs.Booleans.{and_left, and_right}

-- ---- the coefficient of a term

abbrev stands : Term → Summands → Bool
stands t form = list_any (λ q. term_eq q.1 t) form

pub coefficient_none : (form : Summands) (t : Term) → stands t form ≡ false → coefficient form t ≡ pos 0
coefficient_none [] t h = refl
coefficient_none (p ∷ ps) t h =
    elim (cases_Bool (term_eq p.1 t)) [
      | inl e ↦ absurd (true≢false (sym (ap (λ b. b || stands t ps) e) ∙ h))
      | inr n ↦
          ap (λ b. cond b p.0 (pos 0) +ℤ coefficient ps t) n
          ∙ ap (λ z. pos 0 +ℤ z) (coefficient_none ps t (sym (ap (λ b. b || stands t ps) n) ∙ h))
    ]

-- where terms stand once, the first summand with the term has its coefficient
pub coefficient_at : (form : Summands) (t : Term) (k : ℕ) (d : ℤ × Term) → k < length form → stands t (take k form) ≡ false
    → term_eq (get_or form k d).1 t ≡ true → have_distinct_terms form ≡ true → coefficient form t ≡ (get_or form k d).0
coefficient_at [] t k d l s e h = absurd (omega (arith, l))
coefficient_at (p ∷ ps) t zero d l s e h =
    let once : stands p.1 ps ≡ false = not-true (stands p.1 ps) (and_left (not (stands p.1 ps)) (have_distinct_terms ps) h) in
    ap (λ b. cond b p.0 (pos 0) +ℤ coefficient ps t) e
    ∙ ap (λ z. p.0 +ℤ z) (coefficient_none ps t (ap (λ u. stands u ps) (sym (term_eq_is p.1 t e)) ∙ once))
    ∙ omega (arith, sums)
coefficient_at (p ∷ ps) t (suc k) d l s e h =
    elim (cases_Bool (term_eq p.1 t)) [
      | inl y ↦ absurd (true≢false (sym (ap (λ b. b || stands t (take k ps)) y) ∙ s))
      | inr n ↦
          ap (λ b. cond b p.0 (pos 0) +ℤ coefficient ps t) n
          ∙ ap (λ z. pos 0 +ℤ z) (coefficient_at ps t k d (omega (arith, l)) (sym (ap (λ b. b || stands t (take k ps)) n) ∙ s) e
          (and_right (not (stands p.1 ps)) (have_distinct_terms ps) h))
          ∙ omega (arith, sums)
    ]

pub none_in_all : (form : Summands) (t : Term) → stands t (take (length form) form) ≡ false → coefficient form t ≡ pos 0
none_in_all form t h = coefficient_none form t (ap (stands t) (sym (whole form)) ∙ h)
  where
    whole : (form : Summands) → take (length form) form ≡ form
    whole [] = refl
    whole (p ∷ ps) = ap (λ qs. p ∷ qs) (whole ps)

-- ---- sizes

pub small_coefficient : (form : Summands) (t : Term) → has_small_coefficients form ≡ true → have_distinct_terms form ≡ true → unsigned_abs (coefficient form t) ≤ 2 ^ 30
small_coefficient [] t h k = omega arith
small_coefficient (p ∷ ps) t h k = elim (cases_Bool (term_eq p.1 t)) [
  | inl e ↦ omega (
    arith,
    ap unsigned_abs (coefficient_at (p ∷ ps) t 0 p (omega arith) refl e k),
    leb-true (unsigned_abs p.0) (2 ^ 30) (and_left (nat_le (unsigned_abs p.0) (2 ^ 30)) (has_small_coefficients ps) h),
  )
  | inr n ↦
      subst (λ z. unsigned_abs z ≤ 2 ^ 30) (sym (past n))
      (small_coefficient ps t (and_right (nat_le (unsigned_abs p.0) (2 ^ 30)) (has_small_coefficients ps) h) (and_right (not (stands p.1 ps)) (have_distinct_terms ps) k))
]
  where
    past : term_eq p.1 t ≡ false → coefficient (p ∷ ps) t ≡ coefficient ps t
    past n = ap (λ b. cond b p.0 (pos 0) +ℤ coefficient ps t) n ∙ omega (arith, sums)

pub product_size : (m c : ℤ) → unsigned_abs m ≤ 2 ^ 80 → unsigned_abs c ≤ 2 ^ 30 → unsigned_abs (m *ℤ c) ≤ 2 ^ 110
product_size m c h k = omega (arith, unsigned_abs-mul m c, mul-le (unsigned_abs m) (unsigned_abs c) (2 ^ 80) (2 ^ 30) h k)

pub small_row : (rows : List GivenRow) (i : ℕ) (d : GivenRow) → i < length rows → all_small rows ≡ true → has_small_coefficients (get_or rows i d).form ≡ true
small_row [] i d l h = absurd (omega (arith, l))
small_row (r ∷ rs) zero d l h = and_left (has_small_coefficients r.form) (all_small rs) h
small_row (r ∷ rs) (suc i) d l h = small_row rs i d (omega (arith, l)) (and_right (has_small_coefficients r.form) (all_small rs) h)

pub good_multiplier : (ms : List ℤ) (i : ℕ) → i < length ms → small_multipliers ms ≡ true → unsigned_abs (get_or ms i (pos 0)) ≤ 2 ^ 80
good_multiplier [] i l h = absurd (omega (arith, l))
good_multiplier (m ∷ ms) zero l h = leb-true (unsigned_abs m) (2 ^ 80) (and_left (nat_le (unsigned_abs m) (2 ^ 80)) (small_multipliers ms) h)
good_multiplier (m ∷ ms) (suc i) l h = good_multiplier ms i (omega (arith, l)) (and_right (nat_le (unsigned_abs m) (2 ^ 80)) (small_multipliers ms) h)

-- one row more
pub total_more : (rows : List GivenRow) (ms : List ℤ) (i : ℕ) (d : GivenRow) (t : Term) → i < length rows → i < length ms
    → total (with_multipliers (take (i + 1) rows) (take (i + 1) ms)) t ≡ total (with_multipliers (take i rows) (take i ms)) t +ℤ get_or ms i (pos 0) *ℤ coefficient (get_or rows i d).form t
total_more rows ms i d t h k = ap (λ n. total (with_multipliers (take n rows) (take n ms)) t) (one_more i) ∙ go rows ms i h k
  where
    one_more : (n : ℕ) → n + 1 ≡ suc n
    one_more n = omega arith

    go : (rows : List GivenRow) (ms : List ℤ) (i : ℕ) → i < length rows → i < length ms
        → total (with_multipliers (take (suc i) rows) (take (suc i) ms)) t ≡ total (with_multipliers (take i rows) (take i ms)) t +ℤ get_or ms i (pos 0) *ℤ coefficient (get_or rows i d).form t
    go [] ms i h k = absurd (omega (arith, h))
    go (r ∷ rs) [] i h k = absurd (omega (arith, k))
    go (r ∷ rs) (m ∷ ms) zero h k = omega (arith, sums)
    go (r ∷ rs) (m ∷ ms) (suc i) h k = omega (arith, sums, go rs ms i (omega (arith, h)) (omega (arith, k)))

-- ---- all rows

pub weighed_rows : (rows : List GivenRow) (ms : List ℤ) → length ms ≡ length rows → map (λ (w : Weighed). w.row) (with_multipliers rows ms) ≡ views_of_rows rows
weighed_rows [] ms e = refl
weighed_rows (r ∷ rs) [] e = absurd (omega (arith, e))
weighed_rows (r ∷ rs) (m ∷ ms) e = ap (λ xs. view_of_row r ∷ xs) (weighed_rows rs ms (omega (arith, e)))

cancels_rows : (f : Term → ℤ) (rows : List GivenRow)
    → list_all (λ t. int_eq (f t) (pos 0)) (terms_of_rows (views_of_rows rows)) ≡ list_all (λ r. list_all (λ p. int_eq (f p.1) (pos 0)) r.form) rows
cancels_rows f [] = refl
cancels_rows f (r ∷ rs) =
    list_all-append (λ t. int_eq (f t) (pos 0)) (map (λ p. p.1) r.form) (terms_of_rows (views_of_rows rs))
    ∙ ap (λ b. b && list_all (λ t. int_eq (f t) (pos 0)) (terms_of_rows (views_of_rows rs))) (list_all-map (λ t. int_eq (f t) (pos 0)) (λ p. p.1) r.form)
    ∙ ap (λ b. list_all (λ p. int_eq (f p.1) (pos 0)) r.form && b) (cancels_rows f rs)

good_signs : (xs : List (GivenRow × ℤ)) → list_all (λ (w : Weighed). allows_multiplier w.row.sense w.multiplier) (map (λ (x : GivenRow × ℤ). record { multiplier = x.1; row = view_of_row x.0 }) xs)
    ≡ list_all (λ (x : GivenRow × ℤ). allows_multiplier (sense_of x.0.sense) x.1) xs
good_signs [] = refl
good_signs (x ∷ xs) = ap (λ b. allows_multiplier (sense_of x.0.sense) x.1 && b) (good_signs xs)

strict_signs : (xs : List (GivenRow × ℤ)) → list_any (λ (w : Weighed). is_strict w.row.sense w.multiplier) (map (λ (x : GivenRow × ℤ). record { multiplier = x.1; row = view_of_row x.0 }) xs)
    ≡ list_any (λ (x : GivenRow × ℤ). is_strict (sense_of x.0.sense) x.1) xs
strict_signs [] = refl
strict_signs (x ∷ xs) = ap (λ b. is_strict (sense_of x.0.sense) x.1 || b) (strict_signs xs)

pub absurd_is : (rows : List GivenRow) (ms : List ℤ) (signs cancels : Bool) → length ms ≡ length rows
    → signs ≡ (list_all (λ (x : GivenRow × ℤ). allows_multiplier (sense_of x.0.sense) x.1) (zip rows ms) && list_any (λ (x : GivenRow × ℤ). is_strict (sense_of x.0.sense) x.1) (zip rows ms))
    → cancels ≡ list_all (λ r. list_all (λ p. int_eq (total (with_multipliers rows ms) p.1) (pos 0)) r.form) rows
    → (signs && cancels) ≡ is_absurd (with_multipliers rows ms)
absurd_is rows ms signs cancels e s c =
    and_comm signs cancels
    ∙ ap (λ b. b && signs) (c ∙ sym (cancels_rows (total (with_multipliers rows ms)) rows) ∙ ap (λ rs. list_all (λ t. int_eq (total (with_multipliers rows ms) t) (pos 0)) (terms_of_rows rs)) (sym (weighed_rows rows ms e)))
    ∙ ap (λ b. list_all (λ t. int_eq (total (with_multipliers rows ms) t) (pos 0)) (terms_of_rows (map (λ (w : Weighed). w.row) (with_multipliers rows ms))) && b)
    (s ∙ ap (λ b. b && list_any (λ (x : GivenRow × ℤ). is_strict (sense_of x.0.sense) x.1) (zip rows ms)) (sym (good_signs (zip rows ms)))
    ∙ ap (λ b. list_all (λ (w : Weighed). allows_multiplier w.row.sense w.multiplier) (with_multipliers rows ms) && b) (sym (strict_signs (zip rows ms))))

pub absurd_not : (rows : List GivenRow) (ms : List ℤ) (signs : Bool) → length ms ≡ length rows
    → signs ≡ (list_all (λ (x : GivenRow × ℤ). allows_multiplier (sense_of x.0.sense) x.1) (zip rows ms) && list_any (λ (x : GivenRow × ℤ). is_strict (sense_of x.0.sense) x.1) (zip rows ms))
    → signs ≡ false → signs ≡ is_absurd (with_multipliers rows ms)
absurd_not rows ms signs e s n =
    let cancels = list_all (λ (r : GivenRow). list_all (λ (p : ℤ × Term). int_eq (total (with_multipliers rows ms) p.1) (pos 0)) r.form) rows in
    n ∙ sym (ap (λ b. b && cancels) n) ∙ absurd_is rows ms signs cancels e s refl

pub sum_size : (a b : ℤ) (i : ℕ) → unsigned_abs a ≤ i * 2 ^ 110 → unsigned_abs b ≤ 2 ^ 110 → unsigned_abs (a +ℤ b) ≤ (i + 1) * 2 ^ 110
sum_size a b i h k = omega (arith, sums, abs_is a, abs_is b, abs_is (a +ℤ b), h, k)

pub total_step : (rows : List GivenRow) (ms : List ℤ) (i : ℕ) (d : GivenRow) (t : Term) (a b : ℤ) → i < length rows → i < length ms
    → a ≡ total (with_multipliers (take i rows) (take i ms)) t → b ≡ get_or ms i (pos 0) *ℤ coefficient (get_or rows i d).form t
    → a +ℤ b ≡ total (with_multipliers (take (i + 1) rows) (take (i + 1) ms)) t
total_step rows ms i d t a b h k e f = omega (arith, sums, e, f, total_more rows ms i d t h k)
