-- The width over terms, one term after the other.
use Rattle.std.proofs.Common.{◌≡◌, ℕ, zero, suc, ◌+◌, ◌-◌, ◌*◌, ◌<◌, ◌≤◌, ◌^◌, min, List, [], ◌∷◌, ◌++◌, map, length, take, get_or, refl, sym, ap, ◌∙◌, arith, Bool, true, false, not, cond, ◌||◌, ◌&&◌, ◌⊎◌, inl, inr, append_assoc}
use Rattle.std.proofs.Math.Nat.{mul-le-mul_left}
use Rattle.std.specs.Prelude.{nat_le}
use Rattle.std.specs.List.{list_any}
use Rattle.std.proofs.lemmas.List.{take_all, take_more}
use Rattle.std.proofs.lemmas.List.Folds.{list_any-append}
use Rattle.std.proofs.lemmas.Bool.{or_left, cases_Bool, not-true, not-false}
use mathlib.Core.Bool.{or-false}
use lib.IntN.{ℤ}
use Rattle.e_literal.specs.declared.object.Term.{Term}
use Rattle.e_literal.specs.Same.{term_eq}
use Rattle.e_literal.specs.Rows.{Row, Summands, terms_of_rows}
use Rattle.e_literal.specs.Width.{is_among, new_terms, weight, product, constants, width_over, width}
use Rattle.e_fraction.specs.declared.row.Row.{Row as GivenRow}
use Rattle.e_fraction.specs.Views.{views_of_rows}
use Rattle.e_literal.proofs.Terms.{term_eq_is, term_eq_turned}

-- ---- what the tests find

pub among_form : (form : Summands) (t : Term) → is_among (map (λ p. p.1) form) t ≡ list_any (λ (q : ℤ × Term). term_eq q.1 t) form
among_form [] t = refl
among_form (p ∷ ps) t = ap (λ b. b || is_among (map (λ q. q.1) ps) t) (term_eq_turned t p.1) ∙ ap (λ b. term_eq p.1 t || b) (among_form ps t)

pub among_rows : (rows : List GivenRow) (t : Term) → is_among (terms_of_rows (views_of_rows rows)) t ≡ list_any (λ (r : GivenRow). list_any (λ (q : ℤ × Term). term_eq q.1 t) r.form) rows
among_rows [] t = refl
among_rows (r ∷ rs) t =
    list_any-append (term_eq t) (map (λ p. p.1) r.form) (terms_of_rows (views_of_rows rs))
    ∙ ap (λ b. b || is_among (terms_of_rows (views_of_rows rs)) t) (among_form r.form t)
    ∙ ap (λ b. list_any (λ (q : ℤ × Term). term_eq q.1 t) r.form || b) (among_rows rs t)

neither : (a b : Bool) → (not a && not b) ≡ not (b || a)
neither true true = refl
neither true false = refl
neither false true = refl
neither false false = refl

pub is_new_is : (rows : List GivenRow) (form : Summands) (t : Term) (a b : Bool) → a ≡ list_any (λ (q : ℤ × Term). term_eq q.1 t) form
    → b ≡ list_any (λ (r : GivenRow). list_any (λ (q : ℤ × Term). term_eq q.1 t) r.form) rows
    → (not a && not b) ≡ not (is_among (terms_of_rows (views_of_rows rows) ++ map (λ p. p.1) form) t)
is_new_is rows form t a b e f =
    neither a b ∙ ap not (ap (λ k. k || a) (f ∙ sym (among_rows rows t)) ∙ ap (λ k. is_among (terms_of_rows (views_of_rows rows)) t || k) (e ∙ sym (among_form form t))
    ∙ sym (list_any-append (term_eq t) (terms_of_rows (views_of_rows rows)) (map (λ p. p.1) form)))

-- ---- one term more

or_moved : (a b c : Bool) → ((a || b) || c) ≡ (b || (a || c))
or_moved true true c = refl
or_moved true false c = refl
or_moved false b c = refl

pub new_more : (before ts : List Term) (t : Term) → new_terms before (ts ++ t ∷ []) ≡ new_terms before ts ++ cond (is_among before t || is_among ts t) [] (t ∷ [])
new_more before [] t = ap (λ b. cond b [] (t ∷ [])) (sym (or-false (is_among before t)))
new_more before (x ∷ xs) t = by (is_among before x) refl (λ bs. new_more bs xs t)
  where
    met : is_among before x ≡ true → (is_among before t || is_among xs t) ≡ (is_among before t || (term_eq t x || is_among xs t))
    met is = elim (cases_Bool (term_eq t x)) [
      | inl e ↦ (let known : is_among before t ≡ true = ap (is_among before) (term_eq_is t x e) ∙ is in
          or_left (is_among before t) (is_among xs t) known ∙ sym (or_left (is_among before t) (term_eq t x || is_among xs t) known))
      | inr n ↦ ap (λ b. is_among before t || (b || is_among xs t)) (sym n)
    ]

    by : (b : Bool) → is_among before x ≡ b → ((bs : List Term) → new_terms bs (xs ++ t ∷ []) ≡ new_terms bs xs ++ cond (is_among bs t || is_among xs t) [] (t ∷ []))
        → cond b (new_terms before (xs ++ t ∷ [])) (x ∷ new_terms (x ∷ before) (xs ++ t ∷ []))
        ≡ cond b (new_terms before xs) (x ∷ new_terms (x ∷ before) xs) ++ cond (is_among before t || (term_eq t x || is_among xs t)) [] (t ∷ [])
    by true is ih = ih before ∙ ap (λ b. new_terms before xs ++ cond b [] (t ∷ [])) (met is)
    by false is ih =
        ap (λ ys. x ∷ ys) (ih (x ∷ before))
        ∙ ap (λ b. x ∷ (new_terms (x ∷ before) xs ++ cond b [] (t ∷ []))) (or_moved (term_eq t x) (is_among before t) (is_among xs t))

pub product_more : (rows : List Row) (ts : List Term) (t : Term) → product (map (weight rows) (ts ++ t ∷ [])) ≡ product (map (weight rows) ts) * weight rows t
product_more rows [] t = omega arith
product_more rows (x ∷ xs) t = ap (λ n. weight rows x * n) (product_more rows xs t) ∙ grouped (weight rows x) (product (map (weight rows) xs)) (weight rows t)
  where
    grouped : (a b c : ℕ) → a * (b * c) ≡ a * b * c
    grouped a b c = omega arith

le_or_lt : (a b : ℕ) → (a ≤ b) ⊎ (b < a)
le_or_lt a b = elim (cases_Bool (nat_le a b)) [ inl e ↦ inl (grind (arith)) | inr n ↦ inr (grind (arith)) ]

-- a cap before a factor that is at least 1 makes no difference to the cap after it
pub capped : (a w cap : ℕ) → 1 ≤ w → min (min a cap * w) cap ≡ min (a * w) cap
capped a w cap h = by (le_or_lt a cap)
  where
    by : (a ≤ cap) ⊎ (cap < a) → min (min a cap * w) cap ≡ min (a * w) cap
    by (inl l) = (let e : min a cap ≡ a = omega (arith, l) in ap (λ n. min (n * w) cap) e)
    by (inr l) = (let e : min a cap ≡ cap = omega (arith, l) in
        ap (λ n. min (n * w) cap) e ∙ omega (arith, l, mul-le-mul_left cap h, mul-le-mul_left a h))

pub none_more : (ts : List Term) → ts ++ [] ≡ ts
none_more [] = refl
none_more (t ∷ ts) = ap (λ xs. t ∷ xs) (none_more ts)

pub width_known : (rows : List Row) (ts : List Term) (t : Term) → is_among ts t ≡ true → width_over rows (ts ++ t ∷ []) ≡ width_over rows ts
width_known rows ts t h =
    ap (λ xs. min (product (map (weight rows) xs) * constants rows) (2 ^ 128 - 1)) (new_more [] ts t ∙ ap (λ b. new_terms [] ts ++ cond b [] (t ∷ [])) h ∙ none_more (new_terms [] ts))

pub width_new : (rows : List Row) (ts : List Term) (t : Term) → is_among ts t ≡ false → width_over rows (ts ++ t ∷ []) ≡ min (width_over rows ts * weight rows t) (2 ^ 128 - 1)
width_new rows ts t h =
    ap (λ xs. min (product (map (weight rows) xs) * constants rows) (2 ^ 128 - 1)) (new_more [] ts t ∙ ap (λ b. new_terms [] ts ++ cond b [] (t ∷ [])) h)
    ∙ ap (λ n. min (n * constants rows) (2 ^ 128 - 1)) (product_more rows (new_terms [] ts) t)
    ∙ ap (λ n. min n (2 ^ 128 - 1)) (grouped (product (map (weight rows) (new_terms [] ts))) (weight rows t) (constants rows))
    ∙ sym (capped (product (map (weight rows) (new_terms [] ts)) * constants rows) (weight rows t) (2 ^ 128 - 1) (omega arith))
  where
    grouped : (a b c : ℕ) → a * b * c ≡ a * c * b
    grouped a b c = omega arith

-- ---- one summand more, one row more

one_more : (n : ℕ) → n + 1 ≡ suc n
one_more n = omega arith

pub summands_more : (form : Summands) (j : ℕ) (d : ℤ × Term) → j < length form → map (λ p. p.1) (take (j + 1) form) ≡ map (λ p. p.1) (take j form) ++ (get_or form j d).1 ∷ []
summands_more form j d h = ap (λ n. map (λ p. p.1) (take n form)) (one_more j) ∙ go form j h
  where
    go : (form : Summands) (j : ℕ) → j < length form → map (λ p. p.1) (take (suc j) form) ≡ map (λ p. p.1) (take j form) ++ (get_or form j d).1 ∷ []
    go [] j h = absurd (omega (arith, h))
    go (p ∷ ps) zero h = refl
    go (p ∷ ps) (suc j) h = ap (λ xs. p.1 ∷ xs) (go ps j (omega (arith, h)))

pub one_row_more : (rows : List GivenRow) (i : ℕ) (r : GivenRow) → i < length rows → r ≡ get_or rows i r → take i rows ++ r ∷ [] ≡ take (i + 1) rows
one_row_more rows i r h is = ap (λ q. take i rows ++ q ∷ []) is ∙ sym (take_more rows i r h)

terms_after : (before : List GivenRow) (r : GivenRow) → terms_of_rows (views_of_rows (before ++ r ∷ [])) ≡ terms_of_rows (views_of_rows before) ++ map (λ p. p.1) r.form
terms_after [] r = none_more (map (λ p. p.1) r.form)
terms_after (q ∷ qs) r =
    ap (λ xs. map (λ p. p.1) q.form ++ xs) (terms_after qs r) ∙ sym (append_assoc (map (λ p. p.1) q.form) (terms_of_rows (views_of_rows qs)) (map (λ p. p.1) r.form))

-- all summands of a row are passed
pub row_passed : (rows : List Row) (before : List GivenRow) (r : GivenRow) (form : Summands) (j n : ℕ) → form ≡ r.form → length form ≤ j → n ≡ width_over rows (terms_of_rows (views_of_rows before) ++ map (λ p. p.1) (take j form))
    → n ≡ width_over rows (terms_of_rows (views_of_rows (before ++ r ∷ [])))
row_passed rows before r form j n is done e =
    e ∙ ap (λ (f : Summands). width_over rows (terms_of_rows (views_of_rows before) ++ map (λ p. p.1) f)) (take_all j form done ∙ is)
    ∙ ap (width_over rows) (sym (terms_after before r))

-- the summand at j, which stands nowhere before, or somewhere
pub width_step_new : (rows : List Row) (before : List Term) (form : Summands) (j : ℕ) (d : ℤ × Term) (n : ℕ) → j < length form
    → not (is_among (before ++ map (λ p. p.1) (take j form)) (get_or form j d).1) ≡ true → n ≡ width_over rows (before ++ map (λ p. p.1) (take j form))
    → min (n * weight rows (get_or form j d).1) (2 ^ 128 - 1) ≡ width_over rows (before ++ map (λ p. p.1) (take (j + 1) form))
width_step_new rows before form j d n h new e =
    ap (λ k. min (k * weight rows (get_or form j d).1) (2 ^ 128 - 1)) e
    ∙ sym (width_new rows (before ++ map (λ p. p.1) (take j form)) (get_or form j d).1 (not-true (is_among (before ++ map (λ p. p.1) (take j form)) (get_or form j d).1) new))
    ∙ ap (width_over rows) (append_assoc before (map (λ p. p.1) (take j form)) ((get_or form j d).1 ∷ []) ∙ ap (λ xs. before ++ xs) (sym (summands_more form j d h)))

pub width_step_known : (rows : List Row) (before : List Term) (form : Summands) (j : ℕ) (d : ℤ × Term) (n : ℕ) → j < length form
    → not (is_among (before ++ map (λ p. p.1) (take j form)) (get_or form j d).1) ≡ false → n ≡ width_over rows (before ++ map (λ p. p.1) (take j form))
    → n ≡ width_over rows (before ++ map (λ p. p.1) (take (j + 1) form))
width_step_known rows before form j d n h old e =
    e
    ∙ sym (width_known rows (before ++ map (λ p. p.1) (take j form)) (get_or form j d).1 (not-false (is_among (before ++ map (λ p. p.1) (take j form)) (get_or form j d).1) old))
    ∙ ap (width_over rows) (append_assoc before (map (λ p. p.1) (take j form)) ((get_or form j d).1 ∷ []) ∙ ap (λ xs. before ++ xs) (sym (summands_more form j d h)))

pub all_rows : (rows : List GivenRow) (i n : ℕ) → length rows ≤ i → n ≡ width_over (views_of_rows rows) (terms_of_rows (views_of_rows (take i rows))) → n ≡ width (views_of_rows rows)
all_rows rows i n h e = e ∙ ap (λ rs. width_over (views_of_rows rows) (terms_of_rows (views_of_rows rs))) (whole rows i h)
  where
    whole : (rs : List GivenRow) (k : ℕ) → length rs ≤ k → take k rs ≡ rs
    whole [] zero l = refl
    whole [] (suc k) l = refl
    whole (r ∷ rs) zero l = absurd (omega (arith, l))
    whole (r ∷ rs) (suc k) l = ap (λ xs. r ∷ xs) (whole rs k (omega (arith, l)))
