-- The multipliers of one row more.
use Rattle.std.proofs.Common.{◌≡◌, ℕ, zero, suc, ◌+◌, ◌-◌, ◌<◌, ◌≤◌, List, [], ◌∷◌, ◌++◌, refl, ap, ap₂, arith, sym, ◌∙◌, subst, length, get_or, take, cond, eqb, Bool, true, false, inl, inr}
use Rattle.std.proofs.lemmas.List.{take_more, take-append-le, append_assoc, length_push}
use Rattle.std.proofs.lemmas.Bool.{cases_eq, eq-eqb, ne_eqb}
use lib.IntN.{ℤ, pos}
use Rattle.e_literal.specs.Rows.{Row}
use Rattle.e_fraction.specs.declared.row.Row.{Row as GivenRow}
use Rattle.e_fraction.specs.Views.{view_of_row, views_of_rows}
use Rattle.e_simplex.specs.Naming.{keeps}
use Rattle.e_simplex.specs.Answer.{IsNotAt}
use Rattle.e_simplex.specs.inner.RowMultipliers.{row_multipliers, count_nots, multiplier_of_row, AreSeen}
use Rattle.e_simplex.proofs.columns.NamedConstraints.{kept_not}

eqb_suc : (a b : ℕ) → eqb a b ≡ eqb (suc a) (suc b)
eqb_suc a b = elim (cases_eq a b) [
  | inl e ↦ eq-eqb a b e ∙ sym (eq-eqb (suc a) (suc b) (ap suc e))
  | inr d ↦ ne_eqb a b d ∙ sym (ne_eqb (suc a) (suc b) (λ q. d (omega (arith, q))))
]

eqb_turned : (a : ℕ) → eqb a 0 ≡ eqb 0 a
eqb_turned a = elim (cases_eq a 0) [
  | inl e ↦ eq-eqb a 0 e ∙ sym (eq-eqb 0 a (sym e))
  | inr d ↦ ne_eqb a 0 d ∙ sym (ne_eqb 0 a (λ q. d (sym q)))
]

eqb_none : (a : ℕ) → eqb (suc a) 0 ≡ eqb (suc (suc a)) 0
eqb_none a = ne_eqb (suc a) 0 (λ q. omega (arith, q)) ∙ sym (ne_eqb (suc (suc a)) 0 (λ q. omega (arith, q)))

nots_push : (rows : List GivenRow) (r : GivenRow) → count_nots (views_of_rows (rows ++ r ∷ [])) ≡ cond (keeps true (view_of_row r).sense) (suc (count_nots (views_of_rows rows))) (count_nots (views_of_rows rows))
nots_push [] r = refl
nots_push (q ∷ qs) r = by (keeps true (view_of_row q).sense) (keeps true (view_of_row r).sense) (count_nots (views_of_rows qs)) (count_nots (views_of_rows (qs ++ r ∷ []))) (nots_push qs r)
  where
    by : (a b : Bool) (m n : ℕ) → n ≡ cond b (suc m) m → cond a (suc n) n ≡ cond b (suc (cond a (suc m) m)) (cond a (suc m) m)
    by true true m n e = ap suc e
    by true false m n e = ap suc e
    by false true m n e = e
    by false false m n e = e

pub nots_more : (rows : List GivenRow) (i : ℕ) (d : GivenRow) (old : ℕ) → i < length rows → old ≡ count_nots (views_of_rows (take i rows))
    → cond (keeps true (view_of_row (get_or rows i d)).sense) (suc old) old ≡ count_nots (views_of_rows (take (i + 1) rows))
nots_more rows i d old l e =
    ap (λ v. cond (keeps true (view_of_row (get_or rows i d)).sense) (suc v) v) e ∙ sym (nots_push (take i rows) (get_or rows i d))
    ∙ ap (λ v. count_nots (views_of_rows v)) (sym (take_more rows i d l))

pub nots_most : (rows : List GivenRow) → count_nots (views_of_rows rows) ≤ length rows
nots_most [] = omega arith
nots_most (q ∷ qs) = by (keeps true (view_of_row q).sense) (nots_most qs)
  where
    by : (b : Bool) → count_nots (views_of_rows qs) ≤ length qs → cond b (suc (count_nots (views_of_rows qs))) (count_nots (views_of_rows qs)) ≤ suc (length qs)
    by true h = omega (arith, h)
    by false h = omega (arith, h)

-- m rows do not say `not 0`
row_multipliers_push : (rows : List GivenRow) (r : GivenRow) (ws : List ℤ) (n k m : ℕ) (last : ℤ) → m + count_nots (views_of_rows rows) ≡ length rows
    → row_multipliers (views_of_rows (rows ++ r ∷ [])) ws n k last
    ≡ row_multipliers (views_of_rows rows) ws n k last ++ multiplier_of_row (keeps true (view_of_row r).sense) (count_nots (views_of_rows rows)) k last (get_or ws (n + m) (pos 0)) ∷ []
row_multipliers_push [] r ws n zero m last h = by (keeps true (view_of_row r).sense)
  where
    by : (b : Bool) → cond b (pos 0 ∷ []) (get_or ws n (pos 0) ∷ []) ≡ multiplier_of_row b 0 0 last (get_or ws (n + m) (pos 0)) ∷ []
    by true = refl
    by false = ap (λ v. get_or ws v (pos 0) ∷ []) (omega (arith, h))
row_multipliers_push [] r ws n (suc k) m last h = by (keeps true (view_of_row r).sense)
  where
    by : (b : Bool) → cond b (cond (eqb k 0) last (pos 0) ∷ []) (get_or ws n (pos 0) ∷ []) ≡ multiplier_of_row b 0 (suc k) last (get_or ws (n + m) (pos 0)) ∷ []
    by true = ap (λ v. cond v last (pos 0) ∷ []) (eqb_turned k ∙ eqb_suc 0 k)
    by false = ap (λ v. get_or ws v (pos 0) ∷ []) (omega (arith, h))
row_multipliers_push (q ∷ qs) r ws n zero m last h = by (keeps true (view_of_row q).sense) h (λ p j g. row_multipliers_push qs r ws p zero j last g)
  where
    by : (b : Bool) → m + cond b (suc (count_nots (views_of_rows qs))) (count_nots (views_of_rows qs)) ≡ suc (length qs)
        → ((p j : ℕ) → j + count_nots (views_of_rows qs) ≡ length qs → row_multipliers (views_of_rows (qs ++ r ∷ [])) ws p zero last
        ≡ row_multipliers (views_of_rows qs) ws p zero last ++ multiplier_of_row (keeps true (view_of_row r).sense) (count_nots (views_of_rows qs)) zero last (get_or ws (p + j) (pos 0)) ∷ [])
        → cond b (pos 0 ∷ row_multipliers (views_of_rows (qs ++ r ∷ [])) ws n zero last) (get_or ws n (pos 0) ∷ row_multipliers (views_of_rows (qs ++ r ∷ [])) ws (suc n) zero last)
        ≡ cond b (pos 0 ∷ row_multipliers (views_of_rows qs) ws n zero last) (get_or ws n (pos 0) ∷ row_multipliers (views_of_rows qs) ws (suc n) zero last)
        ++ multiplier_of_row (keeps true (view_of_row r).sense) (cond b (suc (count_nots (views_of_rows qs))) (count_nots (views_of_rows qs))) zero last (get_or ws (n + m) (pos 0)) ∷ []
    by true g ih = ap (λ v. pos 0 ∷ v) (ih n m (omega (arith, g)))
        ∙ ap (λ v. (pos 0 ∷ row_multipliers (views_of_rows qs) ws n zero last) ++ cond (keeps true (view_of_row r).sense) (cond v last (pos 0)) (get_or ws (n + m) (pos 0)) ∷ []) (eqb_none (count_nots (views_of_rows qs)))
    by false g ih = none m g
      where
        none : (i : ℕ) → i + count_nots (views_of_rows qs) ≡ suc (length qs)
            → get_or ws n (pos 0) ∷ row_multipliers (views_of_rows (qs ++ r ∷ [])) ws (suc n) zero last
            ≡ (get_or ws n (pos 0) ∷ row_multipliers (views_of_rows qs) ws (suc n) zero last) ++ multiplier_of_row (keeps true (view_of_row r).sense) (count_nots (views_of_rows qs)) zero last (get_or ws (n + i) (pos 0)) ∷ []
        none zero f = absurd (omega (arith, f, nots_most qs))
        none (suc i) f = ap (λ v. get_or ws n (pos 0) ∷ v) (ih (suc n) i (omega (arith, f)))
            ∙ ap (λ v. (get_or ws n (pos 0) ∷ row_multipliers (views_of_rows qs) ws (suc n) zero last) ++ multiplier_of_row (keeps true (view_of_row r).sense) (count_nots (views_of_rows qs)) zero last (get_or ws v (pos 0)) ∷ []) (omega arith)
row_multipliers_push (q ∷ qs) r ws n (suc k) m last h = by (keeps true (view_of_row q).sense) h (λ p j g. row_multipliers_push qs r ws p k j last g) (λ p j g. row_multipliers_push qs r ws p (suc k) j last g)
  where
    by : (b : Bool) → m + cond b (suc (count_nots (views_of_rows qs))) (count_nots (views_of_rows qs)) ≡ suc (length qs)
        → ((p j : ℕ) → j + count_nots (views_of_rows qs) ≡ length qs → row_multipliers (views_of_rows (qs ++ r ∷ [])) ws p k last
        ≡ row_multipliers (views_of_rows qs) ws p k last ++ multiplier_of_row (keeps true (view_of_row r).sense) (count_nots (views_of_rows qs)) k last (get_or ws (p + j) (pos 0)) ∷ [])
        → ((p j : ℕ) → j + count_nots (views_of_rows qs) ≡ length qs → row_multipliers (views_of_rows (qs ++ r ∷ [])) ws p (suc k) last
        ≡ row_multipliers (views_of_rows qs) ws p (suc k) last ++ multiplier_of_row (keeps true (view_of_row r).sense) (count_nots (views_of_rows qs)) (suc k) last (get_or ws (p + j) (pos 0)) ∷ [])
        → cond b (cond (eqb k 0) last (pos 0) ∷ row_multipliers (views_of_rows (qs ++ r ∷ [])) ws n k last) (get_or ws n (pos 0) ∷ row_multipliers (views_of_rows (qs ++ r ∷ [])) ws (suc n) (suc k) last)
        ≡ cond b (cond (eqb k 0) last (pos 0) ∷ row_multipliers (views_of_rows qs) ws n k last) (get_or ws n (pos 0) ∷ row_multipliers (views_of_rows qs) ws (suc n) (suc k) last)
        ++ multiplier_of_row (keeps true (view_of_row r).sense) (cond b (suc (count_nots (views_of_rows qs))) (count_nots (views_of_rows qs))) (suc k) last (get_or ws (n + m) (pos 0)) ∷ []
    by true g ih jh = ap (λ v. cond (eqb k 0) last (pos 0) ∷ v) (ih n m (omega (arith, g)))
        ∙ ap (λ v. (cond (eqb k 0) last (pos 0) ∷ row_multipliers (views_of_rows qs) ws n k last) ++ cond (keeps true (view_of_row r).sense) (cond v last (pos 0)) (get_or ws (n + m) (pos 0)) ∷ []) (eqb_suc (suc (count_nots (views_of_rows qs))) k)
    by false g ih jh = none m g
      where
        none : (i : ℕ) → i + count_nots (views_of_rows qs) ≡ suc (length qs)
            → get_or ws n (pos 0) ∷ row_multipliers (views_of_rows (qs ++ r ∷ [])) ws (suc n) (suc k) last
            ≡ (get_or ws n (pos 0) ∷ row_multipliers (views_of_rows qs) ws (suc n) (suc k) last) ++ multiplier_of_row (keeps true (view_of_row r).sense) (count_nots (views_of_rows qs)) (suc k) last (get_or ws (n + i) (pos 0)) ∷ []
        none zero f = absurd (omega (arith, f, nots_most qs))
        none (suc i) f = ap (λ v. get_or ws n (pos 0) ∷ v) (jh (suc n) i (omega (arith, f)))
            ∙ ap (λ v. (get_or ws n (pos 0) ∷ row_multipliers (views_of_rows qs) ws (suc n) (suc k) last) ++ multiplier_of_row (keeps true (view_of_row r).sense) (count_nots (views_of_rows qs)) (suc k) last (get_or ws v (pos 0)) ∷ []) (omega arith)

-- one row more
seen_push : (rows : List GivenRow) (r : GivenRow) (ws : List ℤ) (k : ℕ) (last v : ℤ) (nots next : ℕ) (all new : List ℤ) → AreSeen rows ws k last nots all
    → new ≡ all ++ v ∷ [] → v ≡ multiplier_of_row (keeps true (view_of_row r).sense) nots k last (get_or ws (length all - nots) (pos 0))
    → next ≡ cond (keeps true (view_of_row r).sense) (suc nots) nots → AreSeen (rows ++ r ∷ []) ws k last next new
seen_push rows r ws k last v nots next all new h f g e = record {
  many = omega (arith, ap length f, length_push all v, length_push rows r, h.many);
  nots_are = e ∙ ap (λ n. cond (keeps true (view_of_row r).sense) (suc n) n) h.nots_are ∙ sym (nots_push rows r);
  value = f ∙ ap₂ {A = List ℤ} {B = ℤ} (λ a b. a ++ b ∷ []) h.value (g ∙ ap (λ n. multiplier_of_row (keeps true (view_of_row r).sense) n k last (get_or ws (length all - nots) (pos 0))) h.nots_are
      ∙ ap (λ j. multiplier_of_row (keeps true (view_of_row r).sense) (count_nots (views_of_rows rows)) k last (get_or ws j (pos 0))) (omega arith))
      ∙ sym (row_multipliers_push rows r ws 0 k (length all - nots) last (omega (arith, h.many, h.nots_are, nots_most rows)));
}

pub seen_more : (before rows : List GivenRow) (i : ℕ) (d : GivenRow) (ws : List ℤ) (k : ℕ) (last v : ℤ) (nots next : ℕ) (all new : List ℤ) → i < length rows
    → new ≡ all ++ v ∷ [] → v ≡ multiplier_of_row (keeps true (view_of_row (get_or rows i d)).sense) nots k last (get_or ws (length all - nots) (pos 0))
    → next ≡ cond (keeps true (view_of_row (get_or rows i d)).sense) (suc nots) nots
    → AreSeen (before ++ take i rows) ws k last nots all → AreSeen (before ++ take (i + 1) rows) ws k last next new
seen_more before rows i d ws k last v nots next all new l f g e h =
    subst (λ x. AreSeen x ws k last next new) (append_assoc before (take i rows) (get_or rows i d ∷ []) ∙ ap (λ x. before ++ x) (sym (take_more rows i d l)))
    (seen_push (before ++ take i rows) (get_or rows i d) ws k last v nots next all new h f g e)

pub seen_none : (ws : List ℤ) (k : ℕ) (last : ℤ) (all : List ℤ) → all ≡ [] → AreSeen [] ws k last 0 all
seen_none ws k last all e = record { many = ap length e; nots_are = refl; value = e }

pub seen_most : (rows : List GivenRow) (ws : List ℤ) (k : ℕ) (last : ℤ) (nots : ℕ) (all : List ℤ) → AreSeen rows ws k last nots all → nots ≤ length all
seen_most rows ws k last nots all h = omega (arith, h.many, h.nots_are, nots_most rows)

-- ---- two lists of rows

pub nots_append : (xs ys : List GivenRow) → count_nots (views_of_rows (xs ++ ys)) ≡ count_nots (views_of_rows xs) + count_nots (views_of_rows ys)
nots_append [] ys = omega arith
nots_append (x ∷ xs) ys = by (keeps true (view_of_row x).sense) (nots_append xs ys)
  where
    by : (b : Bool) → count_nots (views_of_rows (xs ++ ys)) ≡ count_nots (views_of_rows xs) + count_nots (views_of_rows ys)
        → cond b (suc (count_nots (views_of_rows (xs ++ ys)))) (count_nots (views_of_rows (xs ++ ys))) ≡ cond b (suc (count_nots (views_of_rows xs))) (count_nots (views_of_rows xs)) + count_nots (views_of_rows ys)
    by true e = omega (arith, e)
    by false e = e

pub is_not_here : (rows : List Row) (k : ℕ) → IsNotAt rows k → k < length rows
is_not_here [] k h = absurd h
is_not_here (r ∷ rs) zero h = omega arith
is_not_here (r ∷ rs) (suc k) h = omega (arith, is_not_here rs k h)

pub not_before : (xs ys : List GivenRow) (k : ℕ) → IsNotAt (views_of_rows xs) k → IsNotAt (views_of_rows (xs ++ ys)) k
not_before [] ys k h = absurd h
not_before (x ∷ xs) ys zero h = h
not_before (x ∷ xs) ys (suc k) h = not_before xs ys k h

pub not_after : (xs ys : List GivenRow) (n k : ℕ) → n ≡ length xs + k → IsNotAt (views_of_rows ys) k → IsNotAt (views_of_rows (xs ++ ys)) n
not_after [] ys n k e h =
    let same : k ≡ n = omega (arith, e) in
    subst (IsNotAt (views_of_rows ys)) same h
not_after (x ∷ xs) ys zero k e h = absurd (omega (arith, e))
not_after (x ∷ xs) ys (suc n) k e h = not_after xs ys n k (omega (arith, e)) h

pub nots_before : (xs ys : List GivenRow) (k : ℕ) → k ≤ length xs → count_nots (views_of_rows (take k (xs ++ ys))) ≡ count_nots (views_of_rows (take k xs))
nots_before xs ys k l = ap (λ v. count_nots (views_of_rows v)) (take-append-le k xs ys l)

pub nots_after : (xs ys : List GivenRow) (n k : ℕ) → n ≡ length xs + k → count_nots (views_of_rows (take n (xs ++ ys))) ≡ count_nots (views_of_rows xs) + count_nots (views_of_rows (take k ys))
nots_after xs ys n k e = ap (λ v. count_nots (views_of_rows v)) (split xs n e) ∙ nots_append xs (take k ys)
  where
    split : (zs : List GivenRow) (m : ℕ) → m ≡ length zs + k → take m (zs ++ ys) ≡ zs ++ take k ys
    split [] m f =
        let same : m ≡ k = omega (arith, f) in
        ap (λ v. take v ys) same
    split (z ∷ zs) zero f = absurd (omega (arith, f))
    split (z ∷ zs) (suc m) f = ap (λ v. z ∷ v) (split zs m (omega (arith, f)))

-- ---- the place of a row that says `not 0`

pub is_not_at : (rows : List GivenRow) (i : ℕ) (d : GivenRow) → i < length rows → keeps true (view_of_row (get_or rows i d)).sense ≡ true → IsNotAt (views_of_rows rows) i
is_not_at [] i d l h = absurd (omega (arith, l))
is_not_at (r ∷ rs) zero d l h = kept_not (view_of_row r).sense h
is_not_at (r ∷ rs) (suc i) d l h = is_not_at rs i d (omega (arith, l)) h

pub count_most : (b : Bool) (s i : ℕ) → s ≤ i → cond b (suc s) s ≤ i + 1
count_most true s i h = omega (arith, h)
count_most false s i h = omega (arith, h)

pub take_done : {X : Type 0} (xs : List X) (k : ℕ) → length xs ≤ k → take k xs ≡ xs
take_done [] zero l = refl
take_done [] (suc k) l = refl
take_done (x ∷ xs) zero l = absurd (omega (arith, l))
take_done (x ∷ xs) (suc k) l = ap (λ v. x ∷ v) (take_done xs k (omega (arith, l)))
