-- How the rows of a sum are added up one after another.
use Rattle.std.proofs.Common.{◌≡◌, ℕ, zero, suc, ◌+◌, ◌*◌, ◌<◌, ◌≤◌, ◌^◌, List, [], ◌∷◌, ◌++◌, map, take, length, get_or, refl, sym, ap, ◌∙◌, arith, Bool, true, false, ◌&&◌, ◌||◌, not, Option, Some, None, true≢false, inl, inr, leb-true}
use Rattle.std.specs.Prelude.{ℤ, pos, ◌+ℤ◌, ◌*ℤ◌, unsigned_abs, nat_le, option_and_then, IsTrue, ◌↔◌, if◌then◌else◌}
use Rattle.std.specs.Option.{option_map, option_map_or}
use Rattle.std.specs.List.{list_all, list_any}
use Rattle.std.specs.Ordering.{int_eq}
use Rattle.std.proofs.lemmas.List.{take_more, length-take}
use Rattle.std.proofs.lemmas.List.Folds.{list_all-append, list_any-append}
use Rattle.std.proofs.lemmas.Bool.{cases_Bool}
use mathlib.Core.Bool.{or-false, and_comm, and-true}
use Rattle.e_literal.specs.declared.object.Term.{Term}
use Rattle.e_literal.specs.Same.{term_eq}
use Rattle.e_literal.specs.Rows.{Row, Summands, coefficient, terms_of_rows}
use Rattle.e_literal.specs.Absurd.{Weighed, total, allows_multiplier, is_strict, is_absurd}
use Rattle.e_literal.proofs.Terms.{term_eq_is}
use Rattle.e_literal.proofs.Arith.{sums, zero_is, product_size}
use Rattle.e_literal.proofs.Booleans.{or_not_left, or_not_right, and_left, and_right, same_bool, all_hold}
use Rattle.e_clause.specs.declared.cert.RowName.{RowName}
use Rattle.e_clause.specs.Sum.{RowScope, row_named, weighed_rows, is_nonzero_bounded, is_limited_sum, refutes}
use Rattle.e_verify.specs.inner.Totals.{total_at}
use Rattle.e_verify.specs.inner.Small.{is_small_row}
use Rattle.e_verify.specs.inner.Views.{row_view}
use Rattle.e_verify.specs.declared.rows.Row.{Row as CodeRow}
use Rattle.e_verify.proofs.arithmetic.Coefficients.{abs_sum, times_none, row_size}

abbrev pub weigh : ℤ → Row → Weighed
weigh m r = record { multiplier = m; row = r }

abbrev good_signs : List Weighed → Bool
good_signs ws = list_all (λ w. allows_multiplier w.row.sense w.multiplier) ws

abbrev some_strict : List Weighed → Bool
some_strict ws = list_any (λ w. is_strict w.row.sense w.multiplier) ws

-- ---- the rows that are named

pub named_more : (p : RowScope) (xs : List (ℤ × RowName)) (x : ℤ × RowName) (r : Row) → row_named p x.1 ≡ Some r → weighed_rows p (xs ++ x ∷ []) ≡ option_map (λ ws. ws ++ weigh x.0 r ∷ []) (weighed_rows p xs)
named_more p [] x r f = ap (option_and_then (λ q. Some (weigh x.0 q ∷ []))) f
named_more p (y ∷ xs) x r f =
    ap (λ o. option_and_then (λ q. option_map (λ rs. weigh y.0 q ∷ rs) o) (row_named p y.1)) (named_more p xs x r f) ∙ by (row_named p y.1) (weighed_rows p xs)
  where
    by : (o : Option Row) (w : Option (List Weighed))
        → option_and_then (λ q. option_map (λ rs. weigh y.0 q ∷ rs) (option_map (λ ws. ws ++ weigh x.0 r ∷ []) w)) o ≡ option_map (λ ws. ws ++ weigh x.0 r ∷ []) (option_and_then (λ q. option_map (λ rs. weigh y.0 q ∷ rs) w) o)
    by None w = refl
    by (Some q) None = refl
    by (Some q) (Some ws) = refl

-- no rows where one has no name
pub unnamed : (p : RowScope) (xs : List (ℤ × RowName)) (i : ℕ) (d : ℤ × RowName) → i < length xs → row_named p (get_or xs i d).1 ≡ None → weighed_rows p xs ≡ None
unnamed p [] i d h e = absurd (omega (arith, h))
unnamed p (x ∷ xs) zero d h e = ap (option_and_then (λ r. option_map (λ rs. weigh x.0 r ∷ rs) (weighed_rows p xs))) e
unnamed p (x ∷ xs) (suc i) d h e =
    ap (λ o. option_and_then (λ r. option_map (λ rs. weigh x.0 r ∷ rs) o) (row_named p x.1)) (unnamed p xs i d (omega (arith, h)) e) ∙ by (row_named p x.1)
  where
    by : (o : Option Row) → option_and_then (λ r. option_map (λ rs. weigh x.0 r ∷ rs) None) o ≡ None
    by (Some r) = refl
    by None = refl

and_false : (a b : Bool) → b ≡ false → (a && b) ≡ false
and_false true b h = h
and_false false b h = refl

bad_signs : (p : RowScope) (xs : List (ℤ × RowName)) (i : ℕ) (d : ℤ × RowName) (r : Row) → i < length xs → row_named p (get_or xs i d).1 ≡ Some r → allows_multiplier r.sense (get_or xs i d).0 ≡ false
    → option_map_or good_signs (weighed_rows p xs) false ≡ false
bad_signs p [] i d r h e k = absurd (omega (arith, h))
bad_signs p (x ∷ xs) zero d r h e k = ap (λ o. option_map_or good_signs (option_and_then (λ q. option_map (λ rs. weigh x.0 q ∷ rs) (weighed_rows p xs)) o) false) e ∙ by (weighed_rows p xs)
  where
    by : (w : Option (List Weighed)) → option_map_or good_signs (option_map (λ rs. weigh x.0 r ∷ rs) w) false ≡ false
    by None = refl
    by (Some ws) = ap (λ b. b && good_signs ws) k
bad_signs p (x ∷ xs) (suc i) d r h e k = by (row_named p x.1) (weighed_rows p xs) (bad_signs p xs i d r (omega (arith, h)) e k)
  where
    by : (o : Option Row) (w : Option (List Weighed)) → option_map_or good_signs w false ≡ false → option_map_or good_signs (option_and_then (λ q. option_map (λ rs. weigh x.0 q ∷ rs) w) o) false ≡ false
    by None w h = refl
    by (Some q) None h = refl
    by (Some q) (Some ws) h = and_false (allows_multiplier q.sense x.0) (good_signs ws) h

-- ---- terms that cancel

abbrev stands : Term → List Term → Bool
stands t ts = list_any (λ u. term_eq u t) ts

coefficient_absent : (form : Summands) (t : Term) → stands t (map (λ p. p.1) form) ≡ false → coefficient form t ≡ pos 0
coefficient_absent [] t h = refl
coefficient_absent (p ∷ form) t h =
    ap (λ b. (if b then p.0 else pos 0) +ℤ coefficient form t) (or_not_left (term_eq p.1 t) (stands t (map (λ p. p.1) form)) h)
    ∙ ap (λ z. pos 0 +ℤ z) (coefficient_absent form t (or_not_right (term_eq p.1 t) (stands t (map (λ p. p.1) form)) h))

abbrev terms_of : List Weighed → List Term
terms_of ws = terms_of_rows (map (λ w. w.row) ws)

total_absent : (ws : List Weighed) (t : Term) → stands t (terms_of ws) ≡ false → total ws t ≡ pos 0
total_absent [] t h = refl
total_absent (w ∷ ws) t h =
    let here = stands t (map (λ p. p.1) w.row.form) in
    let k : (here || stands t (terms_of ws)) ≡ false = sym (list_any-append (λ u. term_eq u t) (map (λ p. p.1) w.row.form) (terms_of ws)) ∙ h in
    ap (λ z. w.multiplier *ℤ z +ℤ total ws t) (coefficient_absent w.row.form t (or_not_left here (stands t (terms_of ws)) k))
    ∙ ap (λ z. z +ℤ total ws t) (times_none w.multiplier)
    ∙ ap (λ z. pos 0 +ℤ z) (total_absent ws t (or_not_right here (stands t (terms_of ws)) k))

all_at : (f : Term → Bool) (ts : List Term) (t : Term) → list_all f ts ≡ true → stands t ts ≡ true → f t ≡ true
all_at f [] t h k = absurd (true≢false (sym k))
all_at f (u ∷ ts) t h k = by (term_eq u t) refl k (all_at f ts t (and_right (f u) (list_all f ts) h))
  where
    by : (b : Bool) → term_eq u t ≡ b → (b || stands t ts) ≡ true → (stands t ts ≡ true → f t ≡ true) → f t ≡ true
    by true e k later = ap f (sym (term_eq_is u t e)) ∙ and_left (f u) (list_all f ts) h
    by false e k later = later k

abbrev cancel : List Weighed → Bool
cancel ws = list_all (λ t. int_eq (total ws t) (pos 0)) (terms_of ws)

all_cancel : (ws : List Weighed) → cancel ws ≡ true → (t : Term) → total ws t ≡ pos 0
all_cancel ws h t = elim (cases_Bool (stands t (terms_of ws))) [
  | inl k ↦ zero_is (total ws t) (all_at (λ u. int_eq (total ws u) (pos 0)) (terms_of ws) t h k)
  | inr k ↦ total_absent ws t k
]

cancelled : (ws : List Weighed) → ((t : Term) → total ws t ≡ pos 0) → cancel ws ≡ true
cancelled ws h = all_hold (λ t. int_eq (total ws t) (pos 0)) (terms_of ws) (λ t. ap (λ z. int_eq z (pos 0)) (h t))

-- ---- rows that are added up

-- the rows of these names are added up here
pub record IsAdded (p : RowScope) (xs : List (ℤ × RowName)) (es : List (ℕ × ℤ)) (strict : Bool) : Type 0 where
  pub rows : List Weighed
  pub named : weighed_rows p xs ≡ Some rows
  pub sum : (t : Term) → total_at es t ≡ total rows t
  pub size : (t : Term) → unsigned_abs (total_at es t) ≤ length xs * 2 ^ 106
  pub signs : good_signs rows ≡ true
  pub has_strict : strict ≡ some_strict rows

total_more : (ws : List Weighed) (w : Weighed) (t : Term) → total (ws ++ w ∷ []) t ≡ total ws t +ℤ w.multiplier *ℤ coefficient w.row.form t
total_more [] w t = omega (arith, sums)
total_more (v ∷ ws) w t = omega (arith, sums, total_more ws w t)

pub one_added : (p : RowScope) (xs : List (ℤ × RowName)) (i : ℕ) (x : ℤ × RowName) (es after : List (ℕ × ℤ)) (strict now new : Bool) (row : CodeRow) → i < length xs → x ≡ get_or xs i x → IsAdded p (take i xs) es strict
    → row_named p x.1 ≡ Some (row_view row) → ((t : Term) → total_at after t ≡ total_at es t +ℤ x.0 *ℤ coefficient (row_view row).form t) → allows_multiplier (row_view row).sense x.0 ≡ true
    → now ≡ is_strict (row_view row).sense x.0 → new ≡ (strict || now) → is_small_row row ≡ true → unsigned_abs x.0 ≤ 2 ^ 80 → IsAdded p (take (i + 1) xs) after new
one_added p xs i x es after strict now new row h is a e f g k n small m =
    let r = row_view row in
    record {
      rows = a.rows ++ weigh x.0 r ∷ [];
      named = ap (weighed_rows p) (take_more xs i x h ∙ ap (λ y. take i xs ++ y ∷ []) (sym is)) ∙ named_more p (take i xs) x r e ∙ ap (option_map (λ ws. ws ++ weigh x.0 r ∷ [])) a.named;
      sum = λ t. f t ∙ ap (λ z. z +ℤ x.0 *ℤ coefficient r.form t) (a.sum t) ∙ sym (total_more a.rows (weigh x.0 r) t);
      size = λ t. omega (arith, h, length-take i xs, length-take (i + 1) xs, ap unsigned_abs (f t), a.size t, abs_sum (total_at es t) (x.0 *ℤ coefficient r.form t), product_size x.0 (coefficient r.form t) (2 ^ 80) 64000000 m (row_size row t small));
      signs = list_all-append (λ (w : Weighed). allows_multiplier w.row.sense w.multiplier) a.rows (weigh x.0 r ∷ []) ∙ ap (λ b. b && (allows_multiplier r.sense x.0 && true)) a.signs ∙ and-true (allows_multiplier r.sense x.0) ∙ g;
      has_strict = n ∙ ap (λ b. b || now) a.has_strict ∙ ap (λ b. some_strict a.rows || b) (k ∙ sym (or-false (is_strict r.sense x.0)))
          ∙ sym (list_any-append (λ (w : Weighed). is_strict w.row.sense w.multiplier) a.rows (weigh x.0 r ∷ []));
    }

-- ---- what the sum comes to

pub not_named : (p : RowScope) (xs : List (ℤ × RowName)) (i : ℕ) (x : ℤ × RowName) → i < length xs → x ≡ get_or xs i x → row_named p x.1 ≡ None → refutes p xs ≡ false
not_named p xs i x h is e = ap (λ o. is_limited_sum xs && option_map_or is_absurd o false) (unnamed p xs i x h (ap (λ y. row_named p y.1) (sym is) ∙ e)) ∙ and_false (is_limited_sum xs) false refl

pub bad_sign : (p : RowScope) (xs : List (ℤ × RowName)) (i : ℕ) (x : ℤ × RowName) (r : Row) → i < length xs → x ≡ get_or xs i x → row_named p x.1 ≡ Some r → allows_multiplier r.sense x.0 ≡ false → refutes p xs ≡ false
bad_sign p xs i x r h is e k =
    and_false (is_limited_sum xs) (option_map_or is_absurd (weighed_rows p xs) false)
    (by (weighed_rows p xs) (bad_signs p xs i x r h (ap (λ y. row_named p y.1) (sym is) ∙ e) (ap (λ y. allows_multiplier r.sense y.0) (sym is) ∙ k)))
  where
    by : (w : Option (List Weighed)) → option_map_or good_signs w false ≡ false → option_map_or is_absurd w false ≡ false
    by None h = refl
    by (Some ws) h = and_false (cancel ws) (good_signs ws && some_strict ws) (ap (λ b. b && some_strict ws) h)

pub whole : (p : RowScope) (xs ys : List (ℤ × RowName)) (es : List (ℕ × ℤ)) (strict none : Bool) → is_limited_sum xs ≡ true → ys ≡ xs → IsAdded p ys es strict
    → IsTrue none ↔ ((t : Term) → total_at es t ≡ pos 0) → (strict && none) ≡ refutes p xs
whole p xs ys es strict none size all a z =
    and_comm strict none ∙ ap (λ b. b && strict) same ∙ ap (λ b. cancel a.rows && b) (a.has_strict ∙ sym (ap (λ b. b && some_strict a.rows) a.signs))
    ∙ sym (ap (λ o. option_map_or is_absurd o false) (ap (weighed_rows p) (sym all) ∙ a.named)) ∙ sym (ap (λ b. b && option_map_or is_absurd (weighed_rows p xs) false) size)
  where
    same : none ≡ cancel a.rows
    same = same_bool none (cancel a.rows) (λ h. cancelled a.rows (λ t. sym (a.sum t) ∙ z.0 h t)) (λ h. z.1 (λ t. a.sum t ∙ all_cancel a.rows h t))

pub all_get : {X : Type 0} (f : X → Bool) (xs : List X) (i : ℕ) (d : X) → list_all f xs ≡ true → i < length xs → f (get_or xs i d) ≡ true
all_get f [] i d h k = absurd (omega (arith, k))
all_get f (x ∷ xs) zero d h k = and_left (f x) (list_all f xs) h
all_get f (x ∷ xs) (suc i) d h k = all_get f xs i d (and_right (f x) (list_all f xs) h) (omega (arith, k))

pub good_multiplier : (xs : List (ℤ × RowName)) (i : ℕ) (x : ℤ × RowName) → is_limited_sum xs ≡ true → i < length xs → x ≡ get_or xs i x → unsigned_abs x.0 ≤ 2 ^ 80
good_multiplier xs i x h k is =
    let all = list_all (λ (x : ℤ × RowName). is_nonzero_bounded x.0) xs in
    let m = x.0 in
    leb-true (unsigned_abs m) (2 ^ 80) (and_right (not (int_eq m (pos 0))) (nat_le (unsigned_abs m) (2 ^ 80))
    (ap (λ (y : ℤ × RowName). is_nonzero_bounded y.0) is ∙ all_get (λ (x : ℤ × RowName). is_nonzero_bounded x.0) xs i x (and_right (nat_le (length xs) 4096) all (and_right (nat_le 1 (length xs)) (nat_le (length xs) 4096 && all) h)) k))

pub small_totals : (p : RowScope) (xs : List (ℤ × RowName)) (i : ℕ) (es : List (ℕ × ℤ)) (strict : Bool) (t : Term) → is_limited_sum xs ≡ true → IsAdded p (take i xs) es strict → unsigned_abs (total_at es t) < 2 ^ 127
small_totals p xs i es strict t h a =
    let all = list_all (λ (x : ℤ × RowName). is_nonzero_bounded x.0) xs in
    let few = leb-true (length xs) 4096 (and_left (nat_le (length xs) 4096) all (and_right (nat_le 1 (length xs)) (nat_le (length xs) 4096 && all) h)) in
    omega (arith, few, length-take i xs, a.size t)

pub all_taken : {X : Type 0} (xs : List X) (i : ℕ) → length xs ≤ i → take i xs ≡ xs
all_taken [] zero h = refl
all_taken [] (suc i) h = refl
all_taken (x ∷ xs) zero h = absurd (omega (arith, h))
all_taken (x ∷ xs) (suc i) h = ap (λ ys. x ∷ ys) (all_taken xs i (omega (arith, h)))
