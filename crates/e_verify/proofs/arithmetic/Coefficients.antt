-- Coefficients of sums, and how large they are.
use Rattle.std.proofs.Common.{◌≡◌, ℕ, ◌+◌, ◌*◌, ◌<◌, ◌≤◌, List, [], ◌∷◌, ◌++◌, map, take, length, get_or, refl, sym, ap, ◌∙◌, arith, Bool, true, false, cond, not, ◌&&◌, filter, Result, Ok, Err, leb-true}
use Rattle.std.specs.Prelude.{ℤ, pos, neg_ℤ, ◌+ℤ◌, ◌*ℤ◌, unsigned_abs, nat_le, OnOk, if◌then◌else◌}
use Rattle.std.specs.List.{list_all}
use Rattle.std.proofs.lemmas.List.{take_more, map-append}
use borrow.Author.Differences.{abs_is}
use denote.Bor.{Bor}
use Rattle.e_literal.specs.declared.object.Term.{Term}
use Rattle.e_literal.specs.declared.object.Term.TheVariants.{Right}
use Rattle.e_literal.specs.declared.object.Mono.{Mono}
use Rattle.e_literal.specs.Same.{canonical, term_eq}
use Rattle.e_literal.specs.Rows.{Summands, coefficient, normal_summands, times, plus, minus, is_degenerate}
use Rattle.e_literal.proofs.Arith.{sums, mul_add, mul_neg, neg_mul, mul_one, size_negative}
use Rattle.e_literal.proofs.Booleans.{and_left, and_right}
use Rattle.e_literal.proofs.Valued.{coefficient_negative}
use Rattle.e_verify.specs.inner.Small.{are_small_monomials, is_small_row}
use Rattle.e_verify.specs.inner.Views.{row_view}
use Rattle.e_verify.specs.declared.rows.Row.{Row}
use Rattle.e_verify.specs.declared.rows.Row.TheVariants.{Sums, Pos, Top, Right as RightRow, Least}
use Rattle.e_verify.specs.declared.rows.RowSense.{RowSense}

-- the coefficient that one summand brings
abbrev pub single : ℤ → Term → Term → ℤ
single n u t = coefficient (normal_summands (times n u ∷ [])) t

pub times_none : (m : ℤ) → m *ℤ pos 0 ≡ pos 0
times_none m = omega (arith, sums, mul_neg m (pos 0))

pub scaled_one : (m n : ℤ) (u t : Term) → m *ℤ single n u t ≡ single (m *ℤ n) u t
scaled_one m n u t = by (is_degenerate u)
  where
    at_term : (b : Bool) → m *ℤ (cond b n (pos 0) +ℤ pos 0) ≡ cond b (m *ℤ n) (pos 0) +ℤ pos 0
    at_term true = ap (λ z. m *ℤ z) (the n) ∙ sym (the (m *ℤ n))
      where
        the : (z : ℤ) → z +ℤ pos 0 ≡ z
        the z = omega (arith, sums)
    at_term false = times_none m

    by : (b : Bool) → m *ℤ coefficient (map (λ (p : ℤ × Term). times p.0 (canonical p.1)) (cond (not b) (times n u ∷ []) [])) t
        ≡ coefficient (map (λ (p : ℤ × Term). times p.0 (canonical p.1)) (cond (not b) (times (m *ℤ n) u ∷ []) [])) t
    by true = times_none m
    by false = at_term (term_eq (canonical u) t)

pub single_and : (n : ℤ) (u t : Term) (f : Summands) → coefficient (normal_summands (times n u ∷ f)) t ≡ single n u t +ℤ coefficient (normal_summands f) t
single_and n u t f = by (is_degenerate u)
  where
    by : (b : Bool) → coefficient (map (λ (p : ℤ × Term). times p.0 (canonical p.1)) (cond (not b) (times n u ∷ filter (λ (p : ℤ × Term). not (is_degenerate p.1)) f) (filter (λ (p : ℤ × Term). not (is_degenerate p.1)) f))) t
        ≡ coefficient (map (λ (p : ℤ × Term). times p.0 (canonical p.1)) (cond (not b) (times n u ∷ []) [])) t +ℤ coefficient (normal_summands f) t
    by true = omega (arith, sums)
    by false = omega (arith, sums)

pub both_forms : (f g : Summands) (t : Term) → coefficient (normal_summands (f ++ g)) t ≡ coefficient (normal_summands f) t +ℤ coefficient (normal_summands g) t
both_forms [] g t = omega (arith, sums)
both_forms (p ∷ f) g t = omega (arith, sums, single_and p.0 p.1 t (f ++ g), single_and p.0 p.1 t f, both_forms f g t)

pub one_more : (ms : List Mono) (i : ℕ) (d : Mono) (t : Term) → i < length ms
    → coefficient (normal_summands (plus (take (i + 1) ms))) t ≡ coefficient (normal_summands (plus (take i ms))) t +ℤ single (pos (get_or ms i d).coeff) (get_or ms i d).term t
one_more ms i d t h =
    ap (λ xs. coefficient (normal_summands (plus xs)) t) (take_more ms i d h)
    ∙ ap (λ f. coefficient (normal_summands f) t) (map-append (λ (m : Mono). times (pos m.coeff) m.term) (take i ms) (get_or ms i d ∷ []))
    ∙ both_forms (plus (take i ms)) (plus (get_or ms i d ∷ [])) t

single_negative : (n : ℤ) (u t : Term) → single (neg_ℤ n) u t ≡ neg_ℤ (single n u t)
single_negative n u t = by (is_degenerate u)
  where
    at_term : (b : Bool) → cond b (neg_ℤ n) (pos 0) +ℤ pos 0 ≡ neg_ℤ (cond b n (pos 0) +ℤ pos 0)
    at_term true = omega (arith, sums)
    at_term false = refl

    by : (b : Bool) → coefficient (map (λ (p : ℤ × Term). times p.0 (canonical p.1)) (cond (not b) (times (neg_ℤ n) u ∷ []) [])) t
        ≡ neg_ℤ (coefficient (map (λ (p : ℤ × Term). times p.0 (canonical p.1)) (cond (not b) (times n u ∷ []) [])) t)
    by true = refl
    by false = at_term (term_eq (canonical u) t)

pub less : (ms : List Mono) (t : Term) → coefficient (normal_summands (minus ms)) t ≡ neg_ℤ (coefficient (normal_summands (plus ms)) t)
less [] t = refl
less (m ∷ ms) t =
    omega (arith, sums, single_and (neg_ℤ (pos m.coeff)) m.term t (minus ms), single_and (pos m.coeff) m.term t (plus ms), single_negative (pos m.coeff) m.term t, less ms t)

-- ---- sizes

pub abs_sum : (a b : ℤ) → unsigned_abs (a +ℤ b) ≤ unsigned_abs a + unsigned_abs b
abs_sum a b = omega (arith, sums, abs_is a, abs_is b, abs_is (a +ℤ b))

single_size : (n : ℕ) (u t : Term) → unsigned_abs (single (pos n) u t) ≤ n
single_size n u t = by (is_degenerate u)
  where
    at_term : (b : Bool) → unsigned_abs (cond b (pos n) (pos 0) +ℤ pos 0) ≤ n
    at_term true = omega arith
    at_term false = omega arith

    by : (b : Bool) → unsigned_abs (coefficient (map (λ (p : ℤ × Term). times p.0 (canonical p.1)) (cond (not b) (times (pos n) u ∷ []) [])) t) ≤ n
    by true = omega arith
    by false = at_term (term_eq (canonical u) t)

abbrev has_low : List Mono → Bool
has_low ms = list_all (λ m. nat_le m.coeff 1000000) ms

sum_size : (ms : List Mono) (t : Term) → has_low ms ≡ true → unsigned_abs (coefficient (normal_summands (plus ms)) t) ≤ length ms * 1000000
sum_size [] t h = omega arith
sum_size (m ∷ ms) t h =
    let low = leb-true m.coeff 1000000 (and_left (nat_le m.coeff 1000000) (has_low ms) h) in
    let rest = sum_size ms t (and_right (nat_le m.coeff 1000000) (has_low ms) h) in
    let one = single_size m.coeff m.term t in
    let both = abs_sum (single (pos m.coeff) m.term t) (coefficient (normal_summands (plus ms)) t) in
    omega (arith, low, rest, one, both, ap unsigned_abs (single_and (pos m.coeff) m.term t (plus ms)))

-- ---- what is added

pub added_one : (a m x y : ℤ) (ms : List Mono) (i : ℕ) (d : Mono) (t : Term) → i < length ms → x ≡ a +ℤ m *ℤ coefficient (normal_summands (plus (take i ms))) t
    → y ≡ x +ℤ single (m *ℤ pos (get_or ms i d).coeff) (get_or ms i d).term t → y ≡ a +ℤ m *ℤ coefficient (normal_summands (plus (take (i + 1) ms))) t
added_one a m x y ms i d t h e f =
    let c = coefficient (normal_summands (plus (take i ms))) t in
    let s = single (pos (get_or ms i d).coeff) (get_or ms i d).term t in
    omega (arith, sums, e, f, scaled_one m (pos (get_or ms i d).coeff) (get_or ms i d).term t, mul_add m c s, ap (λ z. m *ℤ z) (one_more ms i d t h))

pub added_both : (a m x y : ℤ) (p q : List Mono) (t : Term) → x ≡ a +ℤ m *ℤ coefficient (normal_summands (plus p)) t → y ≡ x +ℤ neg_ℤ m *ℤ coefficient (normal_summands (plus q)) t
    → y ≡ a +ℤ m *ℤ coefficient (normal_summands (plus p ++ minus q)) t
added_both a m x y p q t e f =
    let c = coefficient (normal_summands (plus p)) t in
    let d = coefficient (normal_summands (plus q)) t in
    omega (arith, sums, e, f, ap (λ z. m *ℤ z) (both_forms (plus p) (minus q) t ∙ ap (λ z. c +ℤ z) (less q t)), mul_add m c (neg_ℤ d), mul_neg m d, neg_mul m d)

-- ---- what a row adds

pub on_ok : {X E A B : Type 0} (r : Result X E) → OnOk r A → (A → B) → OnOk r B
on_ok (Ok x) h f = f h
on_ok (Err e) h f = h

pub once : (m : ℤ) (u t : Term) → single m u t ≡ m *ℤ single (pos 1) u t
once m u t = sym (scaled_one m (pos 1) u t ∙ ap (λ n. single n u t) (mul_one m))

pub added_pos : (row : Row) (u t : Term) (a m y : ℤ) → row ≡ Pos u → y ≡ a +ℤ single m u t → y ≡ a +ℤ m *ℤ coefficient (row_view row).form t
added_pos row u t a m y is e = e ∙ ap (λ z. a +ℤ z) (once m u t) ∙ ap (λ r. a +ℤ m *ℤ coefficient (row_view r).form t) (sym is)

pub added_least : (row : Row) (u t : Term) (a m y : ℤ) → row ≡ Least u → y ≡ a +ℤ single m u t → y ≡ a +ℤ m *ℤ coefficient (row_view row).form t
added_least row u t a m y is e = e ∙ ap (λ z. a +ℤ z) (once m u t) ∙ ap (λ r. a +ℤ m *ℤ coefficient (row_view r).form t) (sym is)

pub added_top : (row : Row) (u t : Term) (a m x y : ℤ) → row ≡ Top u → x ≡ a +ℤ single (m *ℤ pos 2) Right t → y ≡ x +ℤ single (neg_ℤ m) u t → y ≡ a +ℤ m *ℤ coefficient (row_view row).form t
added_top row u t a m x y is e f =
    here ∙ ap (λ r. a +ℤ m *ℤ coefficient (row_view r).form t) (sym is)
  where
    two : single (m *ℤ pos 2) Right t ≡ m *ℤ single (pos 2) Right t
    two = sym (scaled_one m (pos 2) Right t)

    minus_one : single (neg_ℤ m) u t ≡ m *ℤ single (neg_ℤ (pos 1)) u t
    minus_one = ap (λ n. single n u t) (sym (mul_neg m (pos 1) ∙ ap neg_ℤ (mul_one m))) ∙ sym (scaled_one m (neg_ℤ (pos 1)) u t)

    here : y ≡ a +ℤ m *ℤ coefficient (normal_summands (times (pos 2) Right ∷ times (neg_ℤ (pos 1)) u ∷ [])) t
    here =
        omega (
          arith,
          sums,
          e,
          f,
          two,
          minus_one,
          ap (λ z. m *ℤ z) (single_and (pos 2) Right t (times (neg_ℤ (pos 1)) u ∷ [])),
          mul_add m (single (pos 2) Right t) (single (neg_ℤ (pos 1)) u t),
        )

pub added_sums : (row : Row) (sense : RowSense) (x y : Bor (List Mono)) (turned : Bool) (t : Term) (a m n z : ℤ) → row ≡ Sums sense x y turned → n ≡ (if turned then neg_ℤ m else m)
    → z ≡ a +ℤ n *ℤ coefficient (normal_summands (plus x.now ++ minus y.now)) t → z ≡ a +ℤ m *ℤ coefficient (row_view row).form t
added_sums row sense x y turned t a m n z is e f = by turned e ∙ ap (λ r. a +ℤ m *ℤ coefficient (row_view r).form t) (sym is)
  where
    form : Summands
    form = normal_summands (plus x.now ++ minus y.now)

    by : (b : Bool) → n ≡ (if b then neg_ℤ m else m) → z ≡ a +ℤ m *ℤ coefficient (row_view (Sums sense x y b)).form t
    by true e = f ∙ ap (λ k. a +ℤ k *ℤ coefficient form t) e ∙ ap (λ k. a +ℤ k) (neg_mul m (coefficient form t) ∙ sym (mul_neg m (coefficient form t)) ∙ ap (λ k. m *ℤ k) (sym (coefficient_negative form t)))
    by false e = f ∙ ap (λ k. a +ℤ k *ℤ coefficient form t) e

pub sum_bound : (ms : List Mono) (t : Term) → are_small_monomials ms ≡ true → unsigned_abs (coefficient (normal_summands (plus ms)) t) ≤ 32000000
sum_bound ms t h =
    let few = leb-true (length ms) 32 (and_left (nat_le (length ms) 32) (has_low ms) h) in
    omega (arith, few, sum_size ms t (and_right (nat_le (length ms) 32) (has_low ms) h))

pub row_size : (row : Row) (t : Term) → is_small_row row ≡ true → unsigned_abs (coefficient (row_view row).form t) ≤ 64000000
row_size (Sums sense x y turned) t h = by turned
  where
    form : Summands
    form = normal_summands (plus x.now ++ minus y.now)

    inside : unsigned_abs (coefficient form t) ≤ 64000000
    inside =
        let c = coefficient (normal_summands (plus x.now)) t in
        let d = coefficient (normal_summands (plus y.now)) t in
        omega (
          arith,
          ap unsigned_abs (both_forms (plus x.now) (minus y.now) t ∙ ap (λ z. c +ℤ z) (less y.now t)),
          abs_sum c (neg_ℤ d),
          size_negative d,
          sum_bound x.now t (and_left (are_small_monomials x.now) (are_small_monomials y.now) h),
          sum_bound y.now t (and_right (are_small_monomials x.now) (are_small_monomials y.now) h),
        )

    by : (b : Bool) → unsigned_abs (coefficient (row_view (Sums sense x y b)).form t) ≤ 64000000
    by true = omega (arith, ap unsigned_abs (coefficient_negative form t), size_negative (coefficient form t), inside)
    by false = inside
row_size (Pos u) t h = omega (arith, single_size 1 u t)
row_size (Top u) t h =
    omega (
      arith,
      ap unsigned_abs (single_and (pos 2) Right t (times (neg_ℤ (pos 1)) u ∷ []) ∙ ap (λ z. single (pos 2) Right t +ℤ z) (single_negative (pos 1) u t)),
      abs_sum (single (pos 2) Right t) (neg_ℤ (single (pos 1) u t)),
      size_negative (single (pos 1) u t),
      single_size 2 Right t,
      single_size 1 u t,
    )
row_size RightRow t h = omega (arith, single_size 1 Right t)
row_size (Least u) t h = omega (arith, single_size 1 u t)
