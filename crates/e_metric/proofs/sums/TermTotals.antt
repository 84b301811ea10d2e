-- Rows added up, term by term.
use Rattle.std.proofs.Common.{◌≡◌, ℕ, zero, suc, ◌+◌, ◌*◌, ◌<◌, ◌≤◌, ◌^◌, List, [], ◌∷◌, ◌++◌, length, take, get_or, refl, sym, ap, ◌∙◌, arith, Bool, true, false, cond, not, ◌&&◌, ◌||◌, Some, SFits, leb-true}
use Rattle.std.specs.Prelude.{ℤ, pos, neg_ℤ, ◌+ℤ◌, ◌*ℤ◌, unsigned_abs, unwrap_or, int_lt, nat_le}
use Rattle.std.specs.List.{list_any}
use Rattle.std.specs.Ordering.{is_eq}
use Rattle.std.specs.Map.{lookup, values_of}
use Rattle.std.specs.BTreeMap.{BTreeMap, Updates}
use Rattle.std.proofs.lemmas.Bool.{and_from, not-true}
use Rattle.std.proofs.lemmas.List.{take_more}
use lib.IntN.{zero-*ℤ}
use mir.Syntax.{w128}
use borrow.Author.Differences.{abs_is}
use Rattle.e_literal.specs.declared.object.Term.{Term}
use Rattle.e_literal.specs.contracts.object.TermOrd.TheImpl as order_impl
use Rattle.e_literal.specs.Same.{canonical, term_eq}
use Rattle.e_literal.specs.Rows.{Summands, coefficient}
use Rattle.e_literal.proofs.Arith.{sums, mul_add, mul_neg, fits_wide}
use Rattle.e_literal.proofs.Booleans.{and_left, and_right, or_not_left, or_not_right}
use Rattle.e_literal.proofs.Terms.{term_eq_is}
use Rattle.e_literal.proofs.Valued.{coefficient-append}
use Rattle.e_clause.specs.declared.cert.RowName.{RowName}
use Rattle.e_clause.specs.declared.cert.RowName.TheVariants.{Least}
use Rattle.e_fraction.specs.Distinct.{have_distinct_terms}
use Rattle.e_fraction.specs.Limits.{has_small_coefficients}
use Rattle.e_fraction.proofs.Sums.{product_size}
use Rattle.e_metric.specs.inner.Certificate.{leasts}
use Rattle.e_metric.specs.inner.TermTotals.{kept_total}
use Rattle.e_metric.proofs.terms.TermOrder.{order_is, ties}

-- ---- what is kept for a term

tie_is : (a b : Term) → is_eq ((order_impl.cmp-value).it a b) ≡ term_eq a b
tie_is a b = ap is_eq (order_is a b) ∙ sym (ties a b)

-- what is added at one term
pub added : (m m' : BTreeMap Term ℤ) (key : Term) (before n : ℤ) → before ≡ kept_total m.entries key → Updates (order_impl.cmp-value).it m m' key (Some (before +ℤ n))
    → (t : Term) → kept_total m'.entries t ≡ kept_total m.entries t +ℤ coefficient ((n, key) ∷ []) t
added m m' key before n e u t =
    ap (λ o. unwrap_or o (pos 0)) (u.0 t)
    ∙ ap (λ b. unwrap_or (cond b (Some (before +ℤ n)) (lookup (λ k. is_eq ((order_impl.cmp-value).it t k)) m.entries)) (pos 0)) (tie_is key t)
    ∙ by (term_eq key t) refl
  where
    by : (b : Bool) → term_eq key t ≡ b → unwrap_or (cond b (Some (before +ℤ n)) (lookup (λ k. is_eq ((order_impl.cmp-value).it t k)) m.entries)) (pos 0)
        ≡ kept_total m.entries t +ℤ (cond b n (pos 0) +ℤ pos 0)
    by true same = ap (λ z. z +ℤ n) (e ∙ ap (kept_total m.entries) (term_eq_is key t same)) ∙ omega (arith, sums)
    by false same = omega (arith, sums)

pub sum_fits : (k b n : ℤ) → b ≡ k → unsigned_abs k + unsigned_abs n < 2 ^ 127 → SFits w128 (b +ℤ n)
sum_fits k b n e h = fits_wide (b +ℤ n) (omega (arith, sums, abs_is b, abs_is n, abs_is (b +ℤ n), ap unsigned_abs e, h))

pub nothing_added : (k w c : ℤ) → w ≡ pos 0 → k ≡ k +ℤ w *ℤ c
nothing_added k w c e = omega (arith, sums, ap (λ z. z *ℤ c) e, zero-*ℤ c)

-- ---- summand by summand

pub small_at : (form : Summands) (i : ℕ) (d : ℤ × Term) → i < length form → has_small_coefficients form ≡ true → unsigned_abs (get_or form i d).0 ≤ 2 ^ 30
small_at [] i d l h = absurd (omega (arith, l))
small_at (p ∷ ps) zero d l h = leb-true (unsigned_abs p.0) (2 ^ 30) (and_left (nat_le (unsigned_abs p.0) (2 ^ 30)) (has_small_coefficients ps) h)
small_at (p ∷ ps) (suc i) d l h = small_at ps i d (omega (arith, l)) (and_right (nat_le (unsigned_abs p.0) (2 ^ 30)) (has_small_coefficients ps) h)

pub small_front : (form : Summands) (i : ℕ) → has_small_coefficients form ≡ true → has_small_coefficients (take i form) ≡ true
small_front form zero h = refl
small_front [] (suc i) h = refl
small_front (p ∷ ps) (suc i) h =
    and_from (nat_le (unsigned_abs p.0) (2 ^ 30)) (has_small_coefficients (take i ps)) (and_left (nat_le (unsigned_abs p.0) (2 ^ 30)) (has_small_coefficients ps) h)
    (small_front ps i (and_right (nat_le (unsigned_abs p.0) (2 ^ 30)) (has_small_coefficients ps) h))

abbrev stands : Term → Summands → Bool
stands t form = list_any (λ q. term_eq q.1 t) form

absent_front : (t : Term) (form : Summands) (i : ℕ) → stands t form ≡ false → stands t (take i form) ≡ false
absent_front t form zero h = refl
absent_front t [] (suc i) h = refl
absent_front t (p ∷ ps) (suc i) h =
    ap (λ b. b || stands t (take i ps)) (or_not_left (term_eq p.1 t) (stands t ps) h) ∙ absent_front t ps i (or_not_right (term_eq p.1 t) (stands t ps) h)

pub distinct_front : (form : Summands) (i : ℕ) → have_distinct_terms form ≡ true → have_distinct_terms (take i form) ≡ true
distinct_front form zero h = refl
distinct_front [] (suc i) h = refl
distinct_front (p ∷ ps) (suc i) h =
    let once = not-true (stands p.1 ps) (and_left (not (stands p.1 ps)) (have_distinct_terms ps) h) in
    and_from (not (stands p.1 (take i ps))) (have_distinct_terms (take i ps)) (ap not (absent_front p.1 ps i once))
    (distinct_front ps i (and_right (not (stands p.1 ps)) (have_distinct_terms ps) h))

abs_sum : (a b : ℤ) → unsigned_abs (a +ℤ b) ≤ unsigned_abs a + unsigned_abs b
abs_sum a b = omega (arith, sums, abs_is a, abs_is b, abs_is (a +ℤ b))

pub room_for : (a m c p x : ℤ) → x ≡ a +ℤ m *ℤ c → unsigned_abs a ≤ 2 ^ 123 → unsigned_abs m ≤ 2 ^ 80 → unsigned_abs c ≤ 2 ^ 30 → unsigned_abs p ≤ 2 ^ 110 → unsigned_abs x + unsigned_abs p < 2 ^ 127
room_for a m c p x e h k l s = omega (arith, ap unsigned_abs e, abs_sum a (m *ℤ c), product_size m c k l, h, s)

scaled : (m n : ℤ) (u t : Term) → m *ℤ coefficient ((n, u) ∷ []) t ≡ coefficient ((m *ℤ n, u) ∷ []) t
scaled m n u t = by (term_eq u t)
  where
    by : (b : Bool) → m *ℤ (cond b n (pos 0) +ℤ pos 0) ≡ cond b (m *ℤ n) (pos 0) +ℤ pos 0
    by true = ap (λ z. m *ℤ z) (the n) ∙ sym (the (m *ℤ n))
      where
        the : (z : ℤ) → z +ℤ pos 0 ≡ z
        the z = omega (arith, sums)
    by false = omega (arith, sums, mul_neg m (pos 0))

front_more : (form : Summands) (i : ℕ) (d : ℤ × Term) (t : Term) → i < length form → coefficient (take (i + 1) form) t ≡ coefficient (take i form) t +ℤ coefficient (get_or form i d ∷ []) t
front_more form i d t h = ap (λ f. coefficient f t) (take_more form i d h) ∙ coefficient-append (take i form) (get_or form i d ∷ []) t

pub one_summand : (a m x y : ℤ) (form : Summands) (i : ℕ) (d : ℤ × Term) (t : Term) → i < length form → x ≡ a +ℤ m *ℤ coefficient (take i form) t
    → y ≡ x +ℤ coefficient ((m *ℤ (get_or form i d).0, (get_or form i d).1) ∷ []) t → y ≡ a +ℤ m *ℤ coefficient (take (i + 1) form) t
one_summand a m x y form i d t h e f =
    let c = coefficient (take i form) t in
    let s = coefficient (get_or form i d ∷ []) t in
    omega (arith, sums, e, f, scaled m (get_or form i d).0 (get_or form i d).1 t, mul_add m c s, ap (λ z. m *ℤ z) (front_more form i d t h))

-- ---- what is left of the terms

abbrev least_of : (z : ℤ) (t : Term) → List (ℤ × RowName) → List (ℤ × RowName)
least_of z t rest = cond (int_lt z (pos 0)) ((neg_ℤ z, Least t) ∷ rest) rest

pub leasts_alike : (f g : Term → ℤ) (ts : List Term) → ((t : Term) → f t ≡ g t) → leasts f ts ≡ leasts g ts
leasts_alike f g [] e = refl
leasts_alike f g (t ∷ ts) e =
    ap (λ (z : ℤ). least_of z t (leasts f ts)) (e (canonical t))
    ∙ ap (λ (rest : List (ℤ × RowName)). least_of (g (canonical t)) t rest) (leasts_alike f g ts e)

-- ---- no term has less than nothing

kept_not_less : (test : Term → Bool) (es : List (Term × ℤ)) → list_any (λ z. int_lt z (pos 0)) (values_of es) ≡ false → int_lt (unwrap_or (lookup test es) (pos 0)) (pos 0) ≡ false
kept_not_less test [] h = refl
kept_not_less test (e ∷ es) h = by (test e.0) (kept_not_less test es (or_not_right (int_lt e.1 (pos 0)) (list_any (λ z. int_lt z (pos 0)) (values_of es)) h))
  where
    by : (b : Bool) → int_lt (unwrap_or (lookup test es) (pos 0)) (pos 0) ≡ false → int_lt (unwrap_or (cond b (Some e.1) (lookup test es)) (pos 0)) (pos 0) ≡ false
    by true rest = or_not_left (int_lt e.1 (pos 0)) (list_any (λ z. int_lt z (pos 0)) (values_of es)) h
    by false rest = rest

pub no_leasts : (es : List (Term × ℤ)) (ts : List Term) → list_any (λ z. int_lt z (pos 0)) (values_of es) ≡ false → leasts (kept_total es) ts ≡ []
no_leasts es [] h = refl
no_leasts es (t ∷ ts) h =
    ap (λ b. cond b ((neg_ℤ (kept_total es (canonical t)), Least t) ∷ leasts (kept_total es) ts) (leasts (kept_total es) ts)) (kept_not_less (λ k. is_eq ((order_impl.cmp-value).it (canonical t) k)) es h)
    ∙ no_leasts es ts h
