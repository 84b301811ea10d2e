-- A sum that is absurd leaves its rows no solution.
use Rattle.std.proofs.Common.{◌≡◌, ℕ, zero, suc, List, [], ◌∷◌, ◌++◌, map, refl, sym, ap, ◌∙◌, arith, Bool, true, false, cond, ◌&&◌, ◌||◌, true≢false, inl, inr}
use Rattle.std.specs.List.{list_any, list_all}
use Rattle.std.specs.Ordering.{int_eq}
use Rattle.std.proofs.lemmas.Bool.Decides.{Decides-int_eq}
use Rattle.std.proofs.lemmas.Bool.{or_cases, cases_Bool}
use lib.IntN.{ℤ, pos, negsuc, ◌+ℤ◌, ◌*ℤ◌, *ℤ-zero, zero-*ℤ}
use lib.Signed.{◌<ℤ◌, ◌≤ℤ◌}
use Rattle.e_literal.specs.declared.object.Term.{Term}
use Rattle.e_literal.specs.Same.{term_eq}
use Rattle.e_literal.specs.Rows.{Sense, Zero, AtLeast, More, Not, Summands, coefficient, terms_of_rows}
use Rattle.e_literal.specs.Width.{is_among, new_terms}
use Rattle.e_literal.specs.Absurd.{Weighed, total, allows_multiplier, is_strict, is_absurd}
use Rattle.e_literal.specs.Solution.{form_value, IsSo, Satisfy}
use Rattle.e_literal.proofs.Arith.{sums, add_mul, mul_add, mul_assoc, mul-not_negative, mul-positive}
use Rattle.e_literal.proofs.Terms.{term_eq_is, among_right, among_first, among_rest}
use Rattle.e_literal.proofs.Booleans.{and_left, and_right}

-- ---- sums over terms

-- the sum over the terms of f times the value
abbrev pub over : List Term → (Term → ℤ) → (Term → ℕ) → ℤ
over [] f v = pos 0
over (t ∷ ts) f v = f t *ℤ pos (v t) +ℤ over ts f v

over-none : (ts : List Term) (v : Term → ℕ) → over ts (λ t. pos 0) v ≡ pos 0
over-none [] v = refl
over-none (t ∷ ts) v = omega (arith, sums, zero-*ℤ (pos (v t)), over-none ts v)

over-add : (ts : List Term) (f g : Term → ℤ) (v : Term → ℕ) → over ts (λ t. f t +ℤ g t) v ≡ over ts f v +ℤ over ts g v
over-add [] f g v = refl
over-add (t ∷ ts) f g v = omega (arith, sums, add_mul (f t) (g t) (pos (v t)), over-add ts f g v)

over-scale : (ts : List Term) (a : ℤ) (f : Term → ℤ) (v : Term → ℕ) → over ts (λ t. a *ℤ f t) v ≡ a *ℤ over ts f v
over-scale [] a f v = sym (*ℤ-zero a)
over-scale (t ∷ ts) a f v =
    omega (arith, sums, mul_assoc a (f t) (pos (v t)), over-scale ts a f v, mul_add a (f t *ℤ pos (v t)) (over ts f v))

-- c at the term u, and 0 elsewhere
abbrev point : ℤ → Term → Term → ℤ
point c u t = cond (term_eq u t) c (pos 0)

abbrev chosen : Bool → Bool → ℤ → ℤ
chosen a b x = cond a (pos 0) (cond b x (pos 0))

point_none : (before : List Term) (c : ℤ) (u : Term) (v : Term → ℕ) (b : Bool) → pos 0 ≡ chosen b false (c *ℤ pos (v u))
point_none before c u v true = refl
point_none before c u v false = refl

point_step : (before ts : List Term) (t : Term) (c : ℤ) (u : Term) (v : Term → ℕ)
    → ((bs : List Term) → over (new_terms bs ts) (point c u) v ≡ chosen (is_among bs u) (is_among ts u) (c *ℤ pos (v u)))
    → (b : Bool) → is_among before t ≡ b
    → over (cond b (new_terms before ts) (t ∷ new_terms (t ∷ before) ts)) (point c u) v ≡ chosen (is_among before u) (term_eq u t || is_among ts u) (c *ℤ pos (v u))
point_step before ts t c u v ih true is = elim (cases_Bool (term_eq u t)) [
  | inl e ↦ (let known : is_among before u ≡ true = ap (is_among before) (term_eq_is u t e) ∙ is in
      ih before ∙ ap (λ a. chosen a (is_among ts u) (c *ℤ pos (v u))) known ∙ sym (ap (λ a. chosen a (term_eq u t || is_among ts u) (c *ℤ pos (v u))) known))
  | inr n ↦ ih before ∙ sym (ap (λ k. chosen (is_among before u) (k || is_among ts u) (c *ℤ pos (v u))) n)
]
point_step before ts t c u v ih false is = elim (cases_Bool (term_eq u t)) [
  | inl e ↦ (let unknown : is_among before u ≡ false = ap (is_among before) (term_eq_is u t e) ∙ is in
      ap (λ k. cond k c (pos 0) *ℤ pos (v t) +ℤ over (new_terms (t ∷ before) ts) (point c u) v) e
      ∙ ap (λ z. c *ℤ pos (v t) +ℤ z) (ih (t ∷ before) ∙ ap (λ k. chosen (k || is_among before u) (is_among ts u) (c *ℤ pos (v u))) e)
      ∙ omega (arith, sums)
      ∙ ap (λ s. c *ℤ pos (v s)) (sym (term_eq_is u t e))
      ∙ sym (ap (λ k. cond (k || is_among ts u) (c *ℤ pos (v u)) (pos 0)) e)
      ∙ sym (ap (λ a. chosen a (term_eq u t || is_among ts u) (c *ℤ pos (v u))) unknown))
  | inr n ↦
      ap (λ k. cond k c (pos 0) *ℤ pos (v t) +ℤ over (new_terms (t ∷ before) ts) (point c u) v) n
      ∙ ap (λ z. z +ℤ over (new_terms (t ∷ before) ts) (point c u) v) (zero-*ℤ (pos (v t)))
      ∙ none_more (over (new_terms (t ∷ before) ts) (point c u) v)
      ∙ ih (t ∷ before)
      ∙ ap (λ k. chosen (k || is_among before u) (is_among ts u) (c *ℤ pos (v u))) n
      ∙ sym (ap (λ k. chosen (is_among before u) (k || is_among ts u) (c *ℤ pos (v u))) n)
]
  where
    none_more : (z : ℤ) → pos 0 +ℤ z ≡ z
    none_more z = omega (arith, sums)

-- a term that is none of those before is met once
over_point : (before ts : List Term) (c : ℤ) (u : Term) (v : Term → ℕ)
    → over (new_terms before ts) (point c u) v ≡ chosen (is_among before u) (is_among ts u) (c *ℤ pos (v u))
over_point before [] c u v = point_none before c u v (is_among before u)
over_point before (t ∷ ts) c u v = point_step before ts t c u v (λ bs. over_point bs ts c u v) (is_among before t) refl

-- each term of the form is in the list
abbrev pub AllAmong : List Term → Summands → Type 0
AllAmong ts [] = Unit {0}
AllAmong ts (p ∷ ps) = (is_among ts p.1 ≡ true) × AllAmong ts ps

pub over_form : (ts : List Term) (form : Summands) (v : Term → ℕ) → AllAmong ts form → over (new_terms [] ts) (coefficient form) v ≡ form_value form v
over_form ts [] v h = over-none (new_terms [] ts) v
over_form ts (p ∷ ps) v h =
    over-add (new_terms [] ts) (point p.0 p.1) (coefficient ps) v
    ∙ ap (λ z. z +ℤ over (new_terms [] ts) (coefficient ps) v) (over_point [] ts p.0 p.1 v ∙ ap (λ k. cond k (p.0 *ℤ pos (v p.1)) (pos 0)) h.0)
    ∙ ap (λ z. p.0 *ℤ pos (v p.1) +ℤ z) (over_form ts ps v h.1)

abbrev AllFormsAmong : List Term → List Weighed → Type 0
AllFormsAmong ts [] = Unit {0}
AllFormsAmong ts (w ∷ ws) = AllAmong ts w.row.form × AllFormsAmong ts ws

-- the sum of the rows' values, each times its multiplier
abbrev weighed_value : List Weighed → (Term → ℕ) → ℤ
weighed_value [] v = pos 0
weighed_value (w ∷ ws) v = w.multiplier *ℤ form_value w.row.form v +ℤ weighed_value ws v

over_total : (ts : List Term) (ws : List Weighed) (v : Term → ℕ) → AllFormsAmong ts ws → over (new_terms [] ts) (total ws) v ≡ weighed_value ws v
over_total ts [] v h = over-none (new_terms [] ts) v
over_total ts (w ∷ ws) v h =
    over-add (new_terms [] ts) (λ t. w.multiplier *ℤ coefficient w.row.form t) (total ws) v
    ∙ ap (λ z. z +ℤ over (new_terms [] ts) (total ws) v) (over-scale (new_terms [] ts) w.multiplier (coefficient w.row.form) v ∙ ap (λ z. w.multiplier *ℤ z) (over_form ts w.row.form v h.0))
    ∙ ap (λ z. w.multiplier *ℤ form_value w.row.form v +ℤ z) (over_total ts ws v h.1)

-- ---- the terms of the rows

pub among_own : (form : Summands) (ts : List Term) → AllAmong (map (λ p. p.1) form ++ ts) form
among_own [] ts = tt
among_own (p ∷ ps) ts = (among_first p.1 (map (λ q. q.1) ps ++ ts), all_rest p.1 (map (λ q. q.1) ps ++ ts) ps (among_own ps ts))
  where
    all_rest : (x : Term) (xs : List Term) (form : Summands) → AllAmong xs form → AllAmong (x ∷ xs) form
    all_rest x xs [] h = tt
    all_rest x xs (q ∷ qs) h = (among_rest x xs q.1 h.0, all_rest x xs qs h.1)

pub among_past : (xs ts : List Term) (form : Summands) → AllAmong ts form → AllAmong (xs ++ ts) form
among_past xs ts [] h = tt
among_past xs ts (p ∷ ps) h = (among_right xs ts p.1 h.0, among_past xs ts ps h.1)

over_same : (ts : List Term) (f g : Term → ℤ) (v : Term → ℕ) → ((t : Term) → f t ≡ g t) → over ts f v ≡ over ts g v
over_same [] f g v h = refl
over_same (t ∷ ts) f g v h = omega (arith, sums, ap (λ z. z *ℤ pos (v t)) (h t), over_same ts f g v h)

-- forms with the same coefficients have one value
pub form_value_same : (f g : Summands) (v : Term → ℕ) → ((t : Term) → coefficient f t ≡ coefficient g t) → form_value f v ≡ form_value g v
form_value_same f g v h =
    let first = map (λ (p : ℤ × Term). p.1) f in
    let second = map (λ (p : ℤ × Term). p.1) g in
    sym (over_form (first ++ (second ++ [])) f v (among_own f (second ++ [])))
    ∙ over_same (new_terms [] (first ++ (second ++ []))) (coefficient f) (coefficient g) v h
    ∙ over_form (first ++ (second ++ [])) g v (among_past first (second ++ []) g (among_own g []))

forms_past : (xs ts : List Term) (ws : List Weighed) → AllFormsAmong ts ws → AllFormsAmong (xs ++ ts) ws
forms_past xs ts [] h = tt
forms_past xs ts (w ∷ ws) h = (among_past xs ts w.row.form h.0, forms_past xs ts ws h.1)

forms_among : (ws : List Weighed) → AllFormsAmong (terms_of_rows (map (λ w. w.row) ws)) ws
forms_among [] = tt
forms_among (w ∷ ws) =
    (among_own w.row.form (terms_of_rows (map (λ x. x.row) ws)), forms_past (map (λ p. p.1) w.row.form) (terms_of_rows (map (λ x. x.row) ws)) ws (forms_among ws))

-- ---- signs

not_less : (m : ℤ) → allows_multiplier AtLeast m ≡ true → pos 0 ≤ℤ m
not_less (pos n) h = omega (arith, sums)
not_less (negsuc n) h = absurd (true≢false (sym h))

is_more : (m : ℤ) → is_strict More m ≡ true → pos 0 <ℤ m
is_more (pos zero) h = absurd (true≢false (sym h))
is_more (pos (suc n)) h = omega (arith, sums)
is_more (negsuc n) h = absurd (true≢false (sym h))

one_row : (s : Sense) (m z : ℤ) → allows_multiplier s m ≡ true → IsSo s z → pos 0 ≤ℤ (m *ℤ z)
one_row Zero m z a b = omega (arith, sums, ap (λ k. m *ℤ k) b, *ℤ-zero m)
one_row AtLeast m z a b = mul-not_negative m z (not_less m a) b
one_row More m z a b = mul-not_negative m z (not_less m a) (omega (arith, sums, b))
one_row Not m z a b = absurd (true≢false (sym a))

one_strict : (s : Sense) (m z : ℤ) → is_strict s m ≡ true → IsSo s z → pos 0 <ℤ (m *ℤ z)
one_strict Zero m z a b = absurd (true≢false (sym a))
one_strict AtLeast m z a b = absurd (true≢false (sym a))
one_strict More m z a b = mul-positive m z (is_more m a) b
one_strict Not m z a b = absurd (true≢false (sym a))

abbrev good : Weighed → Bool
good w = allows_multiplier w.row.sense w.multiplier

abbrev strict : Weighed → Bool
strict w = is_strict w.row.sense w.multiplier

value-not_negative : (ws : List Weighed) (v : Term → ℕ) → list_all good ws ≡ true → Satisfy v (map (λ w. w.row) ws) → pos 0 ≤ℤ weighed_value ws v
value-not_negative [] v a s = omega (arith, sums)
value-not_negative (w ∷ ws) v a s =
    omega (
      arith,
      sums,
      one_row w.row.sense w.multiplier (form_value w.row.form v) (and_left (good w) (list_all good ws) a) s.0,
      value-not_negative ws v (and_right (good w) (list_all good ws) a) s.1,
    )

value-positive : (ws : List Weighed) (v : Term → ℕ) → list_all good ws ≡ true → list_any strict ws ≡ true → Satisfy v (map (λ w. w.row) ws) → pos 0 <ℤ weighed_value ws v
value-positive [] v a b s = absurd (true≢false (sym b))
value-positive (w ∷ ws) v a b s = elim (or_cases (strict w) (list_any strict ws) b) [
  | inl e ↦ omega (
    arith,
    sums,
    one_strict w.row.sense w.multiplier (form_value w.row.form v) e s.0,
    value-not_negative ws v (and_right (good w) (list_all good ws) a) s.1,
  )
  | inr r ↦ omega (
    arith,
    sums,
    one_row w.row.sense w.multiplier (form_value w.row.form v) (and_left (good w) (list_all good ws) a) s.0,
    value-positive ws v (and_right (good w) (list_all good ws) a) r s.1,
  )
]

-- ---- what cancels

abbrev cancels_at : (Term → ℤ) → Term → Bool
cancels_at f t = int_eq (f t) (pos 0)

over_cancelled : (before ts : List Term) (f : Term → ℤ) (v : Term → ℕ) → list_all (cancels_at f) ts ≡ true → over (new_terms before ts) f v ≡ pos 0
over_cancelled before [] f v h = refl
over_cancelled before (t ∷ ts) f v h =
    by (is_among before t) ((Decides-int_eq (f t) (pos 0)).0 (and_left (cancels_at f t) (list_all (cancels_at f) ts) h)) (λ bs. over_cancelled bs ts f v (and_right (cancels_at f t) (list_all (cancels_at f) ts) h))
  where
    by : (b : Bool) → f t ≡ pos 0 → ((bs : List Term) → over (new_terms bs ts) f v ≡ pos 0) → over (cond b (new_terms before ts) (t ∷ new_terms (t ∷ before) ts)) f v ≡ pos 0
    by true z ih = ih before
    by false z ih = omega (arith, sums, ap (λ k. k *ℤ pos (v t)) z, zero-*ℤ (pos (v t)), ih (t ∷ before))

-- an absurd sum leaves its rows no solution
pub no_values : (ws : List Weighed) (v : Term → ℕ) → is_absurd ws ≡ true → Satisfy v (map (λ w. w.row) ws) → ⊥
no_values ws v h s =
    let terms = terms_of_rows (map (λ w. w.row) ws) in
    let signs : (list_all good ws && list_any strict ws) ≡ true = and_right (list_all (cancels_at (total ws)) terms) (list_all good ws && list_any strict ws) h in
    omega (
      arith,
      sums,
      over_total terms ws v (forms_among ws),
      over_cancelled [] terms (total ws) v (and_left (list_all (cancels_at (total ws)) terms) (list_all good ws && list_any strict ws) h),
      value-positive ws v (and_left (list_all good ws) (list_any strict ws) signs) (and_right (list_all good ws) (list_any strict ws) signs) s,
    )
