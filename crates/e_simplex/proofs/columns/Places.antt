-- Terms and their columns: places of terms, and constraints of one row more.
use Rattle.std.proofs.Common.{◌≡◌, ◌≢◌, ℕ, zero, suc, ◌+◌, ◌<◌, ◌≤◌, List, [], ◌∷◌, ◌++◌, refl, ap, ap₂, arith, sym, ◌∙◌, subst, length, get_or, take, cond, Bool, true, false, ltb, None, Some, inl, inr}
use Rattle.std.proofs.lemmas.List.{take_more, length_push, get_or_push, get_or_append_left, map-append}
use Rattle.std.specs.List.{position, position_or_len}
use Rattle.std.specs.Option.{unwrap_or}
use Rattle.std.proofs.lemmas.List.Recursion.{is_position_or_len}
use Rattle.std.proofs.lemmas.Bool.{cases_eq, cases_Bool, ltb-false}
use lib.IntN.{ℤ}
use Rattle.e_literal.specs.declared.object.Term.{Term}
use Rattle.e_literal.specs.declared.object.Term.TheVariants.{Right}
use Rattle.e_literal.specs.Same.{term_eq}
use Rattle.e_literal.specs.Rows.{Row, Summands}
use Rattle.e_fraction.specs.declared.row.Row.{Row as GivenRow}
use Rattle.e_fraction.specs.Views.{view_of_row, views_of_rows}
use Rattle.e_simplex.specs.declared.constraints.Monomial.{Monomial}
use Rattle.e_simplex.specs.declared.constraints.Constraint.{Constraint}
use Rattle.e_simplex.specs.declared.constraints.ConstraintSense.{ConstraintSense}
use Rattle.e_simplex.specs.Naming.{place_of, IsIn, AreOnce, Continues, FormNamed, AllNamed, named_form, named_constraint, named_constraints, constraint_sense, keeps}
use Rattle.e_literal.proofs.Terms.{term_eq_is, term_eq_same}

-- ---- places

place_head : (x : Term) (xs : List Term) (t : Term) → term_eq t x ≡ true → place_of (x ∷ xs) t ≡ 0
place_head x xs t e = ap (λ b. cond b 0 (suc (place_of xs t))) e

place_rest : (x : Term) (xs : List Term) (t : Term) → term_eq t x ≡ false → place_of (x ∷ xs) t ≡ suc (place_of xs t)
place_rest x xs t e = ap (λ b. cond b 0 (suc (place_of xs t))) e

pub place_most : (ts : List Term) (t : Term) → place_of ts t ≤ length ts
place_most [] t = omega arith
place_most (x ∷ xs) t = elim (cases_Bool (term_eq t x)) [
  | inl e ↦ omega (arith, place_head x xs t e)
  | inr n ↦ omega (arith, place_rest x xs t n, place_most xs t)
]

pub term_at : (ts : List Term) (t : Term) → IsIn ts t → get_or ts (place_of ts t) Right ≡ t
term_at [] t h = absurd (omega (arith, h))
term_at (x ∷ xs) t h = elim (cases_Bool (term_eq t x)) [
  | inl e ↦ ap (λ n. get_or (x ∷ xs) n Right) (place_head x xs t e) ∙ sym (term_eq_is t x e)
  | inr n ↦ ap (λ m. get_or (x ∷ xs) m Right) (place_rest x xs t n) ∙ term_at xs t (omega (arith, h, place_rest x xs t n))
]

-- the place that a search finds, or the number of terms
pub place_found : (ts : List Term) (t : Term) → unwrap_or (position (term_eq t) ts) (length ts) ≡ place_of ts t
place_found ts t = by (ltb (position_or_len (term_eq t) ts) (length ts)) refl
  where
    more : (x : Term) (xs : List Term) → place_of (x ∷ xs) t ≡ cond (term_eq t x) 0 (1 + place_of xs t)
    more x xs = let one : suc (place_of xs t) ≡ 1 + place_of xs t = omega arith in ap (λ (n : ℕ). cond (term_eq t x) 0 n) one

    same : place_of ts t ≡ position_or_len (term_eq t) ts
    same = is_position_or_len (λ xs. place_of xs t) (term_eq t) refl more ts

    by : (b : Bool) → ltb (position_or_len (term_eq t) ts) (length ts) ≡ b → unwrap_or (cond b (Some (position_or_len (term_eq t) ts)) None) (length ts) ≡ place_of ts t
    by true e = sym same
    by false e = omega (arith, ltb-false (position_or_len (term_eq t) ts) (length ts) e, place_most ts t, same)

place_push : (ts : List Term) (u t : Term) → IsIn ts u → place_of (ts ++ t ∷ []) u ≡ place_of ts u
place_push [] u t h = absurd (omega (arith, h))
place_push (x ∷ xs) u t h = elim (cases_Bool (term_eq u x)) [
  | inl e ↦ place_head x (xs ++ t ∷ []) u e ∙ sym (place_head x xs u e)
  | inr n ↦ place_rest x (xs ++ t ∷ []) u n ∙ ap suc (place_push xs u t (omega (arith, h, place_rest x xs u n))) ∙ sym (place_rest x xs u n)
]

place_last : (ts : List Term) (t : Term) → place_of ts t ≡ length ts → place_of (ts ++ t ∷ []) t ≡ length ts
place_last [] t h = place_head t [] t (term_eq_same t)
place_last (x ∷ xs) t h = elim (cases_Bool (term_eq t x)) [
  | inl e ↦ absurd (omega (arith, h, place_head x xs t e))
  | inr n ↦ place_rest x (xs ++ t ∷ []) t n ∙ ap suc (place_last xs t (omega (arith, h, place_rest x xs t n)))
]

pub in_push : (ts : List Term) (t u : Term) → IsIn ts u → IsIn (ts ++ t ∷ []) u
in_push ts t u h = omega (arith, h, place_push ts u t h, length_push ts t)

pub in_last : (ts : List Term) (t : Term) → place_of ts t ≡ length ts → IsIn (ts ++ t ∷ []) t
in_last ts t h = omega (arith, place_last ts t h, length_push ts t)

pub once_push : (ts : List Term) (t : Term) → AreOnce ts → place_of ts t ≡ length ts → AreOnce (ts ++ t ∷ [])
once_push ts t o h c l = elim (cases_eq c (length ts)) [
  | inl e ↦ ap (place_of (ts ++ t ∷ [])) (get_or_push ts t Right c (sym e)) ∙ place_last ts t h ∙ sym e
  | inr d ↦ (let m : c < length ts = omega (arith, l, d, length_push ts t) in
      ap (place_of (ts ++ t ∷ [])) (get_or_append_left ts (t ∷ []) Right c m)
      ∙ place_push ts (get_or ts c Right) t (omega (arith, o c m, m)) ∙ o c m)
]

-- ---- further terms after the first ones

pub continues_same : (ts : List Term) → Continues ts ts
continues_same ts = record { longer = omega arith; places = λ t h. refl }

pub continues_copy : (ts us : List Term) → us ≡ ts → Continues ts us
continues_copy ts us e = subst (Continues ts) (sym e) (continues_same ts)

pub continues_in : (ts us : List Term) → Continues ts us → (t : Term) → IsIn ts t → IsIn us t
continues_in ts us c t h = omega (arith, h, c.longer, c.places t h)

pub continues_push : (ts us : List Term) (t : Term) → Continues ts us → Continues ts (us ++ t ∷ [])
continues_push ts us t c = record {
  longer = omega (arith, c.longer, length_push us t);
  places = λ u h. place_push us u t (continues_in ts us c u h) ∙ c.places u h;
}

pub continues_further : (ts us vs : List Term) → Continues ts us → Continues us vs → Continues ts vs
continues_further ts us vs c d = record {
  longer = omega (arith, c.longer, d.longer);
  places = λ t h. d.places t (continues_in ts us c t h) ∙ c.places t h;
}

pub form_grown : (ts us : List Term) (form : Summands) → ((t : Term) → IsIn ts t → IsIn us t) → FormNamed ts form → FormNamed us form
form_grown ts us [] g h = tt
form_grown ts us (p ∷ ps) g h = (g p.1 h.0, form_grown ts us ps g h.1)

pub all_grown : (ts us : List Term) (rows : List Row) → ((t : Term) → IsIn ts t → IsIn us t) → AllNamed ts rows → AllNamed us rows
all_grown ts us [] g h = tt
all_grown ts us (r ∷ rs) g h = (form_grown ts us r.form g h.0, all_grown ts us rs g h.1)

form_push : (ts : List Term) (form : Summands) (p : ℤ × Term) → FormNamed ts form → IsIn ts p.1 → FormNamed ts (form ++ p ∷ [])
form_push ts [] p h i = (i, tt)
form_push ts (q ∷ qs) p h i = (h.0, form_push ts qs p h.1 i)

pub form_more : (ts : List Term) (form : Summands) (k : ℕ) (d : ℤ × Term) → k < length form → FormNamed ts (take k form) → IsIn ts (get_or form k d).1
    → FormNamed ts (take (k + 1) form)
form_more ts form k d l h i = subst (FormNamed ts) (sym (take_more form k d l)) (form_push ts (take k form) (get_or form k d) h i)

all_push : (ts : List Term) (rows : List GivenRow) (r : GivenRow) → AllNamed ts (views_of_rows rows) → FormNamed ts r.form → AllNamed ts (views_of_rows (rows ++ r ∷ []))
all_push ts [] r h i = (i, tt)
all_push ts (q ∷ qs) r h i = (h.0, all_push ts qs r h.1 i)

pub all_more : (ts : List Term) (rows : List GivenRow) (k : ℕ) (d : GivenRow) → k < length rows → AllNamed ts (views_of_rows (take k rows)) → FormNamed ts (get_or rows k d).form
    → AllNamed ts (views_of_rows (take (k + 1) rows))
all_more ts rows k d l h i = subst (λ v. AllNamed ts (views_of_rows v)) (sym (take_more rows k d l)) (all_push ts (take k rows) (get_or rows k d) h i)

-- ---- what is named

pub named_at : (ts : List Term) (form : Summands) (k : ℕ) (d : ℤ × Term) → k < length form → FormNamed ts form → IsIn ts (get_or form k d).1
named_at ts [] k d l h = absurd (omega (arith, l))
named_at ts (p ∷ ps) zero d l h = h.0
named_at ts (p ∷ ps) (suc k) d l h = named_at ts ps k d (omega (arith, l)) h.1

pub row_named : (ts : List Term) (rows : List GivenRow) (i : ℕ) (d : GivenRow) → i < length rows → AllNamed ts (views_of_rows rows) → FormNamed ts (get_or rows i d).form
row_named ts [] i d l h = absurd (omega (arith, l))
row_named ts (r ∷ rs) zero d l h = h.0
row_named ts (r ∷ rs) (suc i) d l h = row_named ts rs i d (omega (arith, l)) h.1

named_push : (ts : List Term) (form : Summands) (p : ℤ × Term) → named_form ts (form ++ p ∷ []) ≡ named_form ts form ++ record { coefficient = p.0; column = suc (place_of ts p.1) } ∷ []
named_push ts [] p = refl
named_push ts (q ∷ qs) p = ap (λ v. record { coefficient = q.0; column = suc (place_of ts q.1) } ∷ v) (named_push ts qs p)

pub named_more : (ts : List Term) (form : Summands) (k : ℕ) (d : ℤ × Term) (old new : List Monomial) (x : ℤ) (n : ℕ) → k < length form → old ≡ named_form ts (take k form)
    → new ≡ old ++ record { coefficient = x; column = n } ∷ [] → x ≡ (get_or form k d).0 → n ≡ suc (place_of ts (get_or form k d).1) → new ≡ named_form ts (take (k + 1) form)
named_more ts form k d old new x n l e f a b =
    f ∙ ap₂ {A = List Monomial} {B = Monomial} (λ u v. u ++ v ∷ []) e (ap₂ {A = ℤ} {B = ℕ} (λ u v. let m : Monomial = record { coefficient = u; column = v } in m) a b)
    ∙ sym (named_push ts (take k form) (get_or form k d)) ∙ ap (named_form ts) (sym (take_more form k d l))

constraints_push : (b : Bool) (ts : List Term) (rows : List GivenRow) (r : GivenRow)
    → named_constraints b ts (views_of_rows (rows ++ r ∷ [])) ≡ named_constraints b ts (views_of_rows rows) ++ cond (keeps b (view_of_row r).sense) (named_constraint ts (view_of_row r) ∷ []) []
constraints_push b ts [] r = refl
constraints_push b ts (q ∷ qs) r = by (keeps b (view_of_row q).sense) (constraints_push b ts qs r)
  where
    by : (k : Bool) → named_constraints b ts (views_of_rows (qs ++ r ∷ [])) ≡ named_constraints b ts (views_of_rows qs) ++ cond (keeps b (view_of_row r).sense) (named_constraint ts (view_of_row r) ∷ []) []
        → cond k (named_constraint ts (view_of_row q) ∷ named_constraints b ts (views_of_rows (qs ++ r ∷ []))) (named_constraints b ts (views_of_rows (qs ++ r ∷ [])))
        ≡ cond k (named_constraint ts (view_of_row q) ∷ named_constraints b ts (views_of_rows qs)) (named_constraints b ts (views_of_rows qs)) ++ cond (keeps b (view_of_row r).sense) (named_constraint ts (view_of_row r) ∷ []) []
    by true e = ap (λ v. named_constraint ts (view_of_row q) ∷ v) e
    by false e = e

pub constraints_more : (b : Bool) (ts : List Term) (rows : List GivenRow) (i : ℕ) (d : GivenRow) (old new : List Constraint) (l : Constraint) → i < length rows → old ≡ named_constraints b ts (views_of_rows (take i rows))
    → new ≡ old ++ l ∷ [] → keeps b (view_of_row (get_or rows i d)).sense ≡ true → l.sense ≡ constraint_sense (view_of_row (get_or rows i d)).sense → l.form ≡ named_form ts (get_or rows i d).form
    → new ≡ named_constraints b ts (views_of_rows (take (i + 1) rows))
constraints_more b ts rows i d old new l here e f k g h =
    f ∙ ap₂ {A = List Constraint} {B = Constraint} (λ u v. u ++ v ∷ []) e (ap₂ {A = ConstraintSense} {B = List Monomial} (λ u v. let m : Constraint = record { sense = u; form = v } in m) g h)
    ∙ ap (λ v. named_constraints b ts (views_of_rows (take i rows)) ++ cond v (named_constraint ts (view_of_row (get_or rows i d)) ∷ []) []) (sym k)
    ∙ sym (constraints_push b ts (take i rows) (get_or rows i d)) ∙ ap (λ v. named_constraints b ts (views_of_rows v)) (sym (take_more rows i d here))

pub constraints_same : (b : Bool) (ts : List Term) (rows : List GivenRow) (i : ℕ) (d : GivenRow) (old : List Constraint) → i < length rows → old ≡ named_constraints b ts (views_of_rows (take i rows))
    → keeps b (view_of_row (get_or rows i d)).sense ≡ false → old ≡ named_constraints b ts (views_of_rows (take (i + 1) rows))
constraints_same b ts rows i d old here e k =
    e ∙ sym (no_more (named_constraints b ts (views_of_rows (take i rows))))
    ∙ ap (λ v. named_constraints b ts (views_of_rows (take i rows)) ++ cond v (named_constraint ts (view_of_row (get_or rows i d)) ∷ []) []) (sym k)
    ∙ sym (constraints_push b ts (take i rows) (get_or rows i d)) ∙ ap (λ v. named_constraints b ts (views_of_rows v)) (sym (take_more rows i d here))
  where
    no_more : (vs : List Constraint) → vs ++ [] ≡ vs
    no_more [] = refl
    no_more (v ∷ vs) = ap (λ ws. v ∷ ws) (no_more vs)

-- ---- terms that are new, and terms that are not

pub form_all : (ts : List Term) (form : Summands) (k : ℕ) → length form ≤ k → FormNamed ts (take k form) → FormNamed ts form
form_all ts [] k l h = tt
form_all ts (p ∷ ps) zero l h = absurd (omega (arith, l))
form_all ts (p ∷ ps) (suc k) l h = (h.0, form_all ts ps k (omega (arith, l)) h.1)

pub terms_new : (ts new : List Term) (form : Summands) (k : ℕ) (d : ℤ × Term) → k < length form → new ≡ ts ++ (get_or form k d).1 ∷ []
    → place_of ts (get_or form k d).1 ≡ length ts → AreOnce ts → FormNamed ts (take k form) → AreOnce new × FormNamed new (take (k + 1) form)
terms_new ts new form k d l e n o f =
    subst (λ v. AreOnce v × FormNamed v (take (k + 1) form)) (sym e) (
      once_push ts (get_or form k d).1 o n,
      form_more (ts ++ (get_or form k d).1 ∷ []) form k d l (form_grown ts (ts ++ (get_or form k d).1 ∷ []) (take k form) (in_push ts (get_or form k d).1) f)
          (in_last ts (get_or form k d).1 n),
    )

pub terms_old : (ts new : List Term) (form : Summands) (k : ℕ) (d : ℤ × Term) → k < length form → new ≡ ts
    → place_of ts (get_or form k d).1 ≢ length ts → AreOnce ts → FormNamed ts (take k form) → AreOnce new × FormNamed new (take (k + 1) form)
terms_old ts new form k d l e n o f =
    subst (λ v. AreOnce v × FormNamed v (take (k + 1) form)) (sym e) (o, form_more ts form k d l f (omega (arith, n, place_most ts (get_or form k d).1)))

-- ---- the same constraints by the first terms and by all

form_continued : (ts us : List Term) (form : Summands) → Continues ts us → FormNamed ts form → named_form us form ≡ named_form ts form
form_continued ts us [] c h = refl
form_continued ts us (p ∷ ps) c h =
    ap₂ {A = ℕ} {B = List Monomial} (λ n v. let m : Monomial = record { coefficient = p.0; column = suc n } in m ∷ v) (c.places p.1 h.0) (form_continued ts us ps c h.1)

pub constraints_continued : (b : Bool) (ts us : List Term) (rows : List Row) → Continues ts us → AllNamed ts rows → named_constraints b us rows ≡ named_constraints b ts rows
constraints_continued b ts us [] c h = refl
constraints_continued b ts us (r ∷ rs) c h =
    ap₂ {A = Constraint} {B = List Constraint} (λ l ls. cond (keeps b r.sense) (l ∷ ls) ls)
    (ap (λ v. let m : Constraint = record { sense = constraint_sense r.sense; form = v } in m) (form_continued ts us r.form c h.0)) (constraints_continued b ts us rs c h.1)

pub all_continued : (ts us : List Term) (rows : List Row) → Continues ts us → AllNamed ts rows → AllNamed us rows
all_continued ts us rows c h = all_grown ts us rows (continues_in ts us c) h

-- ---- two lists of rows

pub all_named_append : (ts : List Term) (xs ys : List Row) → AllNamed ts xs → AllNamed ts ys → AllNamed ts (xs ++ ys)
all_named_append ts [] ys h g = g
all_named_append ts (x ∷ xs) ys h g = (h.0, all_named_append ts xs ys h.1 g)

pub constraints_append : (b : Bool) (ts : List Term) (xs ys : List Row) → named_constraints b ts (xs ++ ys) ≡ named_constraints b ts xs ++ named_constraints b ts ys
constraints_append b ts [] ys = refl
constraints_append b ts (x ∷ xs) ys = by (keeps b x.sense) (constraints_append b ts xs ys)
  where
    by : (k : Bool) → named_constraints b ts (xs ++ ys) ≡ named_constraints b ts xs ++ named_constraints b ts ys
        → cond k (named_constraint ts x ∷ named_constraints b ts (xs ++ ys)) (named_constraints b ts (xs ++ ys)) ≡ cond k (named_constraint ts x ∷ named_constraints b ts xs) (named_constraints b ts xs) ++ named_constraints b ts ys
    by true e = ap (λ v. named_constraint ts x ∷ v) e
    by false e = e

pub all_named_first : (ts : List Term) (xs ys : List GivenRow) → AllNamed ts (views_of_rows (xs ++ ys)) → AllNamed ts (views_of_rows xs)
all_named_first ts [] ys h = tt
all_named_first ts (x ∷ xs) ys h = (h.0, all_named_first ts xs ys h.1)

pub all_named_last : (ts : List Term) (xs ys : List GivenRow) → AllNamed ts (views_of_rows (xs ++ ys)) → AllNamed ts (views_of_rows ys)
all_named_last ts [] ys h = h
all_named_last ts (x ∷ xs) ys h = all_named_last ts xs ys h.1

pub constraints_both : (b : Bool) (ts : List Term) (xs ys : List GivenRow)
    → named_constraints b ts (views_of_rows xs) ++ named_constraints b ts (views_of_rows ys) ≡ named_constraints b ts (views_of_rows (xs ++ ys))
constraints_both b ts xs ys = sym (constraints_append b ts (views_of_rows xs) (views_of_rows ys)) ∙ ap (named_constraints b ts) (sym (map-append view_of_row xs ys))
