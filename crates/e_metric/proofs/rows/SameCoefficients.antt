-- Rows that say the same of forms with the same coefficients: they have the same solutions, minors
-- and width.
use Rattle.std.proofs.Common.{◌≡◌, ℕ, zero, suc, ◌+◌, ◌-◌, ◌*◌, ◌≤◌, ◌^◌, max, min, List, [], ◌∷◌, map, length, refl, sym, ap, ap₂, ◌∙◌, subst, arith, cond, Bool, true, false, not, ◌||◌, true≢false, ◌⊎◌, inl, inr}
use Rattle.std.specs.Prelude.{unsigned_abs, sum_by, count_by, filter}
use Rattle.std.proofs.lemmas.List.Sums.{sum_by-cons}
use Rattle.std.proofs.Math.Path.{fun_ext}
use Rattle.std.proofs.lemmas.Bool.{or_left, or_right, or_cases, cases_Bool}
use lib.IntN.{ℤ}
use Rattle.e_literal.specs.declared.object.Term.{Term}
use Rattle.e_literal.specs.Same.{term_eq}
use Rattle.e_literal.specs.Rows.{Row, coefficient, terms_of_rows}
use Rattle.e_literal.specs.Minor.{determinant, constant, Column, Constants, Of, SignedRow, entry, IsWide, IsPart}
use Rattle.e_literal.specs.Width.{has_constant, is_among, new_terms, weight, product, width}
use Rattle.e_literal.specs.Solution.{form_value, IsSo, Satisfy}
use Rattle.e_literal.proofs.Terms.{term_eq_is, term_eq_turned, among_first, among_rest, among_new}
use Rattle.e_literal.proofs.Refutes.{form_value_same}
use Rattle.e_literal.proofs.Booleans.{or_not_left, or_not_right}
use Rattle.e_fraction.proofs.Wideness.{light}

pub record IsAlike (a b : Row) : Type 0 where
  pub sense : a.sense ≡ b.sense
  pub coefficients : (t : Term) → coefficient a.form t ≡ coefficient b.form t

abbrev pub Alike : List Row → List Row → Type 0
Alike [] [] = Unit {0}
Alike (a ∷ as') (b ∷ bs) = IsAlike a b × Alike as' bs
Alike _ _ = ⊥

-- ---- solutions

pub satisfy_alike : (rs ss : List Row) (v : Term → ℕ) → Alike rs ss → Satisfy v rs → Satisfy v ss
satisfy_alike [] [] v h s = tt
satisfy_alike [] (q ∷ ss) v h s = absurd h
satisfy_alike (r ∷ rs) [] v h s = absurd h
satisfy_alike (r ∷ rs) (q ∷ ss) v h s = (
  subst (λ z. IsSo q.sense z) (form_value_same r.form q.form v h.0.coefficients) (subst (λ k. IsSo k (form_value r.form v)) h.0.sense s.0),
  satisfy_alike rs ss v h.1 s.1,
)

-- ---- minors

abbrev row_of : SignedRow → Row
row_of s = s.row

-- chosen rows of one list, found in the other
record Moved (ss : List Row) (cs : List SignedRow) : Type 0 where
  rows : List SignedRow
  part : IsPart (map row_of rows) ss
  entries : map entry cs ≡ map entry rows
  many : length cs ≡ length rows

entry_alike : (c : SignedRow) (q : Row) → IsAlike c.row q → entry c ≡ entry (record { row = q; down = c.down })
entry_alike c q h = fun_ext (λ x. by x)
  where
    by : (x : Column) → entry c x ≡ entry (record { row = q; down = c.down }) x
    by Constants = ap (λ s. constant s c.down) h.sense
    by (Of t) = h.coefficients t

is_none : (cs : List SignedRow) → map row_of cs ≡ [] → cs ≡ []
is_none [] e = refl
is_none (c ∷ cs) e = absurd (cc)

moved : (rs ss : List Row) (cs : List SignedRow) → Alike rs ss → IsPart (map row_of cs) rs → Moved ss cs
moved [] [] cs h p = record { rows = []; part = refl; entries = ap (map entry) (is_none cs p); many = ap length (is_none cs p) }
moved [] (q ∷ ss) cs h p = absurd h
moved (r ∷ rs) [] cs h p = absurd h
moved (r ∷ rs) (q ∷ ss) cs h (inl p) = (let m = moved rs ss cs h.1 p in record { rows = m.rows; part = inl m.part; entries = m.entries; many = m.many })
moved (r ∷ rs) (q ∷ ss) [] h (inr (qs, e, p)) = absurd (cc)
moved (r ∷ rs) (q ∷ ss) (c ∷ cs) h (inr (qs, e, p)) =
    (let first : c.row ≡ r = cc in
    let rest : map row_of cs ≡ qs = cc in
    let m = moved rs ss cs h.1 (subst (λ xs. IsPart xs rs) (sym rest) p) in
    record {
      rows = record { row = q; down = c.down } ∷ m.rows;
      part = inr (map row_of m.rows, refl, m.part);
      entries = ap₂ {A = Column → ℤ} {B = List (Column → ℤ)} (λ x xs. x ∷ xs) (entry_alike c q (subst (λ x. IsAlike x q) (sym first) h.0)) m.entries;
      many = ap suc m.many;
    })

pub wide_alike : (rs ss : List Row) → Alike rs ss → IsWide rs → IsWide ss
wide_alike rs ss h w =
    (let m = moved rs ss w.chosen h w.is_part in
    record {
      chosen = m.rows;
      is_part = m.part;
      columns = w.columns;
      square = w.square ∙ m.many;
      is_large = subst (λ es. 2 ^ 63 ≤ unsigned_abs (determinant es w.columns)) m.entries w.is_large;
    })

-- ---- products over terms

-- no term twice
abbrev Apart : List Term → Type 0
Apart [] = Unit {0}
Apart (t ∷ ts) = (is_among ts t ≡ false) × Apart ts

abbrev without : Term → List Term → List Term
without t ts = filter (λ x. not (term_eq t x)) ts

without_none : (t : Term) (ts : List Term) → is_among ts t ≡ false → without t ts ≡ ts
without_none t [] h = refl
without_none t (x ∷ xs) h =
    ap (λ b. cond (not b) (x ∷ without t xs) (without t xs)) (or_not_left (term_eq t x) (is_among xs t) h)
    ∙ ap (λ ys. x ∷ ys) (without_none t xs (or_not_right (term_eq t x) (is_among xs t) h))

among_of_without : (t u : Term) (ts : List Term) → is_among (without t ts) u ≡ true → (is_among ts u ≡ true) × (term_eq t u ≡ false)
among_of_without t u [] h = absurd (true≢false (sym h))
among_of_without t u (x ∷ xs) h = by (term_eq t x) refl h (λ k. among_of_without t u xs k)
  where
    by : (b : Bool) → term_eq t x ≡ b → is_among (cond (not b) (x ∷ without t xs) (without t xs)) u ≡ true
        → (is_among (without t xs) u ≡ true → (is_among xs u ≡ true) × (term_eq t u ≡ false)) → ((term_eq u x || is_among xs u) ≡ true) × (term_eq t u ≡ false)
    by true e k ih = (let w = ih k in (or_right (term_eq u x) (is_among xs u) w.0, w.1))
    by false e k ih = elim (or_cases (term_eq u x) (is_among (without t xs) u) k) [
      | inl a ↦ (or_left (term_eq u x) (is_among xs u) a, ap (term_eq t) (term_eq_is u x a) ∙ e)
      | inr a ↦ (let w = ih a in (or_right (term_eq u x) (is_among xs u) w.0, w.1))
    ]

without_among : (t u : Term) (ts : List Term) → is_among ts u ≡ true → term_eq t u ≡ false → is_among (without t ts) u ≡ true
without_among t u [] h n = absurd (true≢false (sym h))
without_among t u (x ∷ xs) h n = by (term_eq t x) refl (or_cases (term_eq u x) (is_among xs u) h) (λ k. without_among t u xs k n)
  where
    by : (b : Bool) → term_eq t x ≡ b → (term_eq u x ≡ true) ⊎ (is_among xs u ≡ true) → (is_among xs u ≡ true → is_among (without t xs) u ≡ true)
        → is_among (cond (not b) (x ∷ without t xs) (without t xs)) u ≡ true
    by true e (inl a) ih = absurd (true≢false (sym (ap (term_eq t) (term_eq_is u x a) ∙ e) ∙ n))
    by true e (inr a) ih = ih a
    by false e (inl a) ih = or_left (term_eq u x) (is_among (without t xs) u) a
    by false e (inr a) ih = or_right (term_eq u x) (is_among (without t xs) u) (ih a)

not_among : (t u : Term) (ts : List Term) → is_among ts u ≡ false → is_among (without t ts) u ≡ false
not_among t u ts h = elim (cases_Bool (is_among (without t ts) u)) [
  | inl e ↦ absurd (true≢false (sym (among_of_without t u ts e).0 ∙ h))
  | inr n ↦ n
]

without_apart : (t : Term) (ts : List Term) → Apart ts → Apart (without t ts)
without_apart t [] h = tt
without_apart t (x ∷ xs) h = by (term_eq t x) (without_apart t xs h.1)
  where
    by : (b : Bool) → Apart (without t xs) → Apart (cond (not b) (x ∷ without t xs) (without t xs))
    by true k = k
    by false k = (not_among t x xs h.0, k)

product_without : (w : Term → ℕ) (ts : List Term) (t : Term) → Apart ts → is_among ts t ≡ true → product (map w ts) ≡ w t * product (map w (without t ts))
product_without w [] t a h = absurd (true≢false (sym h))
product_without w (x ∷ xs) t a h = by (term_eq t x) refl (or_cases (term_eq t x) (is_among xs t) h) (λ k. product_without w xs t a.1 k)
  where
    swap : (p q r : ℕ) → p * (q * r) ≡ q * (p * r)
    swap p q r = omega arith

    by : (b : Bool) → term_eq t x ≡ b → (term_eq t x ≡ true) ⊎ (is_among xs t ≡ true) → (is_among xs t ≡ true → product (map w xs) ≡ w t * product (map w (without t xs)))
        → w x * product (map w xs) ≡ w t * product (map w (cond (not b) (x ∷ without t xs) (without t xs)))
    by true e k ih = (let same : t ≡ x = term_eq_is t x e in
        ap (λ u. w u * product (map w xs)) (sym same) ∙ ap (λ ys. w t * product (map w ys)) (sym (without_none t xs (ap (is_among xs) same ∙ a.0))))
    by false e (inl k) ih = absurd (true≢false (sym k ∙ e))
    by false e (inr k) ih = ap (λ n. w x * n) (ih k) ∙ swap (w x) (w t) (product (map w (without t xs)))

one_or_not : (n : ℕ) → (n ≡ 1) ⊎ (n ≡ 1 → ⊥)
one_or_not zero = inr (λ e. omega (arith, e))
one_or_not (suc zero) = inl refl
one_or_not (suc (suc n)) = inr (λ e. omega (arith, e))

product_ones : (w : Term → ℕ) (ts : List Term) → ((t : Term) → is_among ts t ≡ true → w t ≡ 1) → product (map w ts) ≡ 1
product_ones w [] h = refl
product_ones w (t ∷ ts) h = omega (arith, ap (λ n. n * product (map w ts)) (h t (among_first t ts)), product_ones w ts (λ u k. h u (among_rest t ts u k)))

-- two lists with the same terms of weights other than 1
product_same : (w : Term → ℕ) (ns ms : List Term) → Apart ns → Apart ms → ((t : Term) → is_among ns t ≡ true → (w t ≡ 1 → ⊥) → is_among ms t ≡ true)
    → ((t : Term) → is_among ms t ≡ true → (w t ≡ 1 → ⊥) → is_among ns t ≡ true) → product (map w ns) ≡ product (map w ms)
product_same w [] ms a b f g = sym (product_ones w ms (λ t k. elim (one_or_not (w t)) [ inl e ↦ e | inr n ↦ absurd (true≢false (sym (g t k n))) ]))
product_same w (n ∷ ns) ms a b f g = by (one_or_not (w n)) (λ ms b f g. product_same w ns ms a.1 b f g)
  where
    apart_from : (t : Term) → is_among ns t ≡ true → term_eq n t ≡ false
    apart_from t k = elim (cases_Bool (term_eq n t)) [
      | inl e ↦ absurd (true≢false (sym k ∙ ap (is_among ns) (sym (term_eq_is n t e)) ∙ a.0))
      | inr m ↦ m
    ]

    rest : (t : Term) → is_among (n ∷ ns) t ≡ true → (term_eq t n ≡ true → ⊥) → is_among ns t ≡ true
    rest t k m = elim (or_cases (term_eq t n) (is_among ns t) k) [ inl e ↦ absurd (m e) | inr r ↦ r ]

    by : (w n ≡ 1) ⊎ (w n ≡ 1 → ⊥)
        → ((ms : List Term) → Apart ms → ((t : Term) → is_among ns t ≡ true → (w t ≡ 1 → ⊥) → is_among ms t ≡ true) → ((t : Term) → is_among ms t ≡ true → (w t ≡ 1 → ⊥) → is_among ns t ≡ true)
        → product (map w ns) ≡ product (map w ms))
        → w n * product (map w ns) ≡ product (map w ms)
    by (inl e) ih = omega (arith, ap (λ k. k * product (map w ns)) e, ih ms b (λ t k m. f t (among_rest n ns t k) m) (λ t k m. rest t (g t k m) (λ q. m (ap w (term_eq_is t n q) ∙ e))))
    by (inr e) ih = ap (λ k. w n * k) (ih (without n ms) (without_apart n ms b)
        (λ t k m. without_among n t ms (f t (among_rest n ns t k) m) (apart_from t k))
        (λ t k m. let v = among_of_without n t ms k in rest t (g t v.0 m) (λ q. true≢false (sym (term_eq_turned n t ∙ q) ∙ v.1))))
        ∙ sym (product_without w ms n b (f n (among_first n ns) e))

-- ---- the terms of rows, each once

new_not : (before ts : List Term) (u : Term) → is_among before u ≡ true → is_among (new_terms before ts) u ≡ false
new_not before [] u h = refl
new_not before (t ∷ ts) u h = by (is_among before t) refl (λ bs k. new_not bs ts u k)
  where
    differ : is_among before t ≡ false → term_eq u t ≡ false
    differ e = elim (cases_Bool (term_eq u t)) [ inl k ↦ absurd (true≢false (sym h ∙ ap (is_among before) (term_eq_is u t k) ∙ e)) | inr n ↦ n ]

    by : (b : Bool) → is_among before t ≡ b → ((bs : List Term) → is_among bs u ≡ true → is_among (new_terms bs ts) u ≡ false)
        → is_among (cond b (new_terms before ts) (t ∷ new_terms (t ∷ before) ts)) u ≡ false
    by true e ih = ih before h
    by false e ih = ap₂ {A = Bool} {B = Bool} (λ a b. a || b) (differ e) (ih (t ∷ before) (among_rest t before u h))

new_apart : (before ts : List Term) → Apart (new_terms before ts)
new_apart before [] = tt
new_apart before (t ∷ ts) = by (is_among before t) (λ bs. new_apart bs ts)
  where
    by : (b : Bool) → ((bs : List Term) → Apart (new_terms bs ts)) → Apart (cond b (new_terms before ts) (t ∷ new_terms (t ∷ before) ts))
    by true ih = ih before
    by false ih = (new_not (t ∷ before) ts t (among_first t before), ih (t ∷ before))

-- ---- width

size_alike : (rs ss : List Row) (t : Term) → Alike rs ss → sum_by (λ (r : Row). unsigned_abs (coefficient r.form t)) rs ≡ sum_by (λ (r : Row). unsigned_abs (coefficient r.form t)) ss
size_alike [] [] t h = refl
size_alike [] (q ∷ ss) t h = absurd h
size_alike (r ∷ rs) [] t h = absurd h
size_alike (r ∷ rs) (q ∷ ss) t h =
    sum_by-cons (λ (x : Row). unsigned_abs (coefficient x.form t)) r rs
    ∙ ap₂ {A = ℕ} {B = ℕ} (λ a b. a + b) (ap unsigned_abs (h.0.coefficients t)) (size_alike rs ss t h.1)
    ∙ sym (sum_by-cons (λ (x : Row). unsigned_abs (coefficient x.form t)) q ss)

weight_alike : (rs ss : List Row) (t : Term) → Alike rs ss → weight rs t ≡ weight ss t
weight_alike rs ss t h = ap (max 1) (size_alike rs ss t h)

count_alike : (rs ss : List Row) → Alike rs ss → count_by (λ (r : Row). has_constant r.sense) rs ≡ count_by (λ (r : Row). has_constant r.sense) ss
count_alike [] [] h = refl
count_alike [] (q ∷ ss) h = absurd h
count_alike (r ∷ rs) [] h = absurd h
count_alike (r ∷ rs) (q ∷ ss) h =
    sum_by-cons (λ (x : Row). cond (has_constant x.sense) 1 0) r rs
    ∙ ap₂ {A = ℕ} {B = ℕ} (λ a b. a + b) (ap (λ s. cond (has_constant s) 1 0) h.0.sense) (count_alike rs ss h.1)
    ∙ sym (sum_by-cons (λ (x : Row). cond (has_constant x.sense) 1 0) q ss)

-- ---- terms that occur in no row have weight 1

map_same : (f g : Term → ℕ) (ts : List Term) → ((t : Term) → f t ≡ g t) → map f ts ≡ map g ts
map_same f g [] h = refl
map_same f g (t ∷ ts) h = ap₂ {A = ℕ} {B = List ℕ} (λ x xs. x ∷ xs) (h t) (map_same f g ts h)

once_among : (ts : List Term) (t : Term) → is_among ts t ≡ true → is_among (new_terms [] ts) t ≡ true
once_among ts t h = elim (among_new [] ts t h) [ inl e ↦ absurd (true≢false (sym e)) | inr k ↦ k ]

heavy_among : (rows : List Row) (t : Term) → (weight rows t ≡ 1 → ⊥) → is_among (new_terms [] (terms_of_rows rows)) t ≡ true
heavy_among rows t n = elim (cases_Bool (is_among (terms_of_rows rows) t)) [
  | inl e ↦ once_among (terms_of_rows rows) t e
  | inr e ↦ absurd (n (light rows t e))
]

pub width_alike : (rs ss : List Row) → Alike rs ss → width rs ≡ width ss
width_alike rs ss h =
    (let first = new_terms [] (terms_of_rows rs) in
    let second = new_terms [] (terms_of_rows ss) in
    let products : product (map (weight rs) first) ≡ product (map (weight ss) second) =
    product_same (weight rs) first second (new_apart [] (terms_of_rows rs)) (new_apart [] (terms_of_rows ss))
    (λ t k n. heavy_among ss t (λ e. n (weight_alike rs ss t h ∙ e)))
    (λ t k n. heavy_among rs t n)
    ∙ ap product (map_same (weight rs) (weight ss) second (λ t. weight_alike rs ss t h)) in
    ap₂ {A = ℕ} {B = ℕ} (λ a b. min (a * max 1 b) (2 ^ 128 - 1)) products (count_alike rs ss h))
