-- The width of rows over terms is at least the size of each of their minors.
use Rattle.std.proofs.Common.{◌≡◌, ℕ, zero, suc, ◌*◌, ◌≤◌, ◌^◌, max, List, [], ◌∷◌, ◌++◌, map, length, get_or, refl, sym, ap, ◌∙◌, arith, cond, Bool, true, false, ◌||◌, true≢false, inl, inr, subst, append_assoc}
use Rattle.std.specs.Prelude.{unsigned_abs, sum_by}
use Rattle.std.proofs.lemmas.List.Sums.{sum_by-cons}
use Rattle.std.proofs.lemmas.List.Folds.{list_any-append}
use Rattle.std.proofs.lemmas.Nat.{mul-le}
use Rattle.std.proofs.lemmas.Bool.{cases_Bool}
use Rattle.std.proofs.lemmas.List.{length-map}
use lib.IntN.{ℤ}
use Rattle.e_literal.specs.declared.object.Term.{Term}
use Rattle.e_literal.specs.declared.object.Term.TheVariants.{Right}
use Rattle.e_literal.specs.Same.{term_eq}
use Rattle.e_literal.specs.Rows.{Row, Sense, Zero, AtLeast, More, Not, coefficient, terms_of_rows}
use Rattle.e_literal.specs.Minor.{determinant, constant, Column, Constants, Of, SignedRow, entry, IsWide as IsWideRows}
use Rattle.e_literal.specs.Width.{has_constant, is_among, new_terms, weight, product, constants, full_width, width}
use Rattle.e_fraction.specs.Det.{IsPart, EachBelow, HasWideMinor}
use Rattle.e_fraction.proofs.Named.{numbered, det_named}
use Rattle.e_fraction.proofs.WidthOfRows.{column_sum, whole, width_of, wide_width, part_all}
use Rattle.e_literal.proofs.Terms.{among_left, among_right, among_first, among_new}
use Rattle.e_fraction.proofs.Products.{new_more, product_more, none_more, among_form}
use Rattle.e_fraction.proofs.Sums.{coefficient_none}
use Rattle.e_fraction.proofs.Numbering.{column, number, place_below, term_at_place}

abbrev row_of : SignedRow → Row
row_of s = s.row

-- ---- sums over some of the rows

part_sum : (f : Row → ℕ) (ps rows : List Row) → IsPart ps rows → sum_by f ps ≤ sum_by f rows
part_sum f ps [] h = subst (λ v. sum_by f v ≤ sum_by f []) (sym h) (omega arith)
part_sum f ps (r ∷ rows) (inl h) = omega (arith, part_sum f ps rows h, sum_by-cons f r rows)
part_sum f ps (r ∷ rows) (inr (qs, e, h)) =
    subst (λ v. sum_by f v ≤ sum_by f (r ∷ rows)) (sym e) (omega (arith, part_sum f qs rows h, sum_by-cons f r rows, sum_by-cons f r qs))

-- the size of a row's constant
abbrev has_one : Row → ℕ
has_one r = cond (has_constant r.sense) 1 0

constant_size : (s : Sense) (down : Bool) → unsigned_abs (constant s down) ≡ cond (has_constant s) 1 0
constant_size Zero down = refl
constant_size AtLeast down = refl
constant_size More down = refl
constant_size Not true = refl
constant_size Not false = refl

sum_constants : (ts : List Term) (ss : List SignedRow) → column_sum (numbered (column ts) (map entry ss)) 0 ≡ sum_by has_one (map row_of ss)
sum_constants ts [] = refl
sum_constants ts (s ∷ ss) = omega (arith, constant_size s.row.sense s.down, sum_constants ts ss, sum_by-cons has_one s.row (map row_of ss))

abbrev pub size_at : Term → Row → ℕ
size_at t r = unsigned_abs (coefficient r.form t)

sum_term : (ts : List Term) (c : ℕ) (ss : List SignedRow)
    → column_sum (numbered (column ts) (map entry ss)) (suc c) ≡ sum_by (size_at (get_or ts c Right)) (map row_of ss)
sum_term ts c [] = refl
sum_term ts c (s ∷ ss) = omega (arith, sum_term ts c ss, sum_by-cons (size_at (get_or ts c Right)) s.row (map row_of ss))

-- ---- the product over numbered columns

whole_front : (n : ℕ) (g : ℕ → ℕ) → whole (suc n) g ≡ g 0 * whole n (λ c. g (suc c))
whole_front zero g = refl
whole_front (suc n) g = ap (λ v. g (suc n) * v) (whole_front n g) ∙ swap (g (suc n)) (g 0) (whole n (λ c. g (suc c)))
  where
    swap : (a b x : ℕ) → a * (b * x) ≡ b * (a * x)
    swap a b x = omega arith

whole_terms : (ts : List Term) (G : Term → ℕ) → whole (length ts) (λ c. G (get_or ts c Right)) ≡ product (map G ts)
whole_terms [] G = refl
whole_terms (t ∷ ts) G = whole_front (length ts) (λ c. G (get_or (t ∷ ts) c Right)) ∙ ap (λ v. G t * v) (whole_terms ts G)

whole_le : (n : ℕ) (f g : ℕ → ℕ) → ((c : ℕ) → f c ≤ g c) → whole n f ≤ whole n g
whole_le zero f g h = omega arith
whole_le (suc n) f g h = mul-le (f n) (whole n f) (g n) (whole n g) (h n) (whole_le n f g h)

-- ---- terms that stand in no row have weight 1

absent : (rows : List Row) (t : Term) → is_among (terms_of_rows rows) t ≡ false → sum_by (size_at t) rows ≡ 0
absent [] t h = refl
absent (r ∷ rs) t h =
    omega (arith, sum_by-cons (size_at t) r rs, ap unsigned_abs (coefficient_none r.form t (sym (among_form r.form t) ∙ not_left _ _ both)), absent rs t (not_right _ _ both))
  where
    both : (is_among (map (λ p. p.1) r.form) t || is_among (terms_of_rows rs) t) ≡ false
    both = sym (list_any-append (term_eq t) (map (λ p. p.1) r.form) (terms_of_rows rs)) ∙ h

    not_left : (a b : Bool) → (a || b) ≡ false → a ≡ false
    not_left true b e = e
    not_left false b e = refl

    not_right : (a b : Bool) → (a || b) ≡ false → b ≡ false
    not_right true b e = absurd (true≢false e)
    not_right false b e = e

pub light : (rows : List Row) (t : Term) → is_among (terms_of_rows rows) t ≡ false → weight rows t ≡ 1
light rows t h = ap (max 1) (absent rows t h)

extra : (rows : List Row) (us ts : List Term) → ((t : Term) → is_among ts t ≡ false → weight rows t ≡ 1)
    → product (map (weight rows) (new_terms [] (ts ++ us))) ≡ product (map (weight rows) (new_terms [] ts))
extra rows [] ts h = ap (λ xs. product (map (weight rows) (new_terms [] xs))) (none_more ts)
extra rows (u ∷ us) ts h =
    ap (λ xs. product (map (weight rows) (new_terms [] xs))) (sym (append_assoc ts (u ∷ []) us))
    ∙ extra rows us (ts ++ u ∷ []) (λ t n. h t (not_before t n))
    ∙ ap (λ xs. product (map (weight rows) xs)) (new_more [] ts u)
    ∙ last (is_among ts u) refl
  where
    not_before : (t : Term) → is_among (ts ++ u ∷ []) t ≡ false → is_among ts t ≡ false
    not_before t n = elim (cases_Bool (is_among ts t)) [
      | inl e ↦ absurd (true≢false (sym (among_left ts (u ∷ []) t e) ∙ n))
      | inr m ↦ m
    ]

    last : (b : Bool) → is_among ts u ≡ b → product (map (weight rows) (new_terms [] ts ++ cond b [] (u ∷ []))) ≡ product (map (weight rows) (new_terms [] ts))
    last true is = ap (λ xs. product (map (weight rows) xs)) (none_more (new_terms [] ts))
    last false is = product_more rows (new_terms [] ts) u ∙ ap (λ n. product (map (weight rows) (new_terms [] ts)) * n) (h u is) ∙ omega arith

-- ---- the numbers of columns

abbrev terms_of_columns : List Column → List Term
terms_of_columns [] = []
terms_of_columns (Constants ∷ cs) = terms_of_columns cs
terms_of_columns (Of t ∷ cs) = t ∷ terms_of_columns cs

abbrev AllNamed : List Term → List Column → Type 0
AllNamed ts [] = Unit {0}
AllNamed ts (Constants ∷ cs) = AllNamed ts cs
AllNamed ts (Of t ∷ cs) = (is_among ts t ≡ true) × AllNamed ts cs

names : (ts : List Term) (cs : List Column) → AllNamed ts cs → map (column ts) (map (number ts) cs) ≡ cs
names ts [] h = refl
names ts (Constants ∷ cs) h = ap (λ xs. Constants ∷ xs) (names ts cs h)
names ts (Of t ∷ cs) h = ap (λ u. Of u ∷ map (column ts) (map (number ts) cs)) (term_at_place ts t h.0) ∙ ap (λ xs. Of t ∷ xs) (names ts cs h.1)

each_below : (ts : List Term) (cs : List Column) → AllNamed ts cs → EachBelow (suc (length ts)) (map (number ts) cs)
each_below ts [] h = tt
each_below ts (Constants ∷ cs) h = (omega arith, each_below ts cs h)
each_below ts (Of t ∷ cs) h = (omega (arith, place_below ts t h.0), each_below ts cs h.1)

all_named : (ts : List Term) (cs : List Column) → ((t : Term) → is_among (terms_of_columns cs) t ≡ true → is_among ts t ≡ true) → AllNamed ts cs
all_named ts [] h = tt
all_named ts (Constants ∷ cs) h = all_named ts cs h
all_named ts (Of t ∷ cs) h = (h t (among_first t (terms_of_columns cs)), all_named ts cs (λ u k. h u (among_right (t ∷ []) (terms_of_columns cs) u k)))

length_numbered : {C : Type 0} (name : ℕ → C) (rs : List (C → ℤ)) → length (numbered name rs) ≡ length rs
length_numbered name [] = refl
length_numbered name (r ∷ rs) = ap suc (length_numbered name rs)

-- ---- the law

-- the terms of the rows and of the columns, each once
abbrev all_terms : List Row → List Column → List Term
all_terms rows cs = new_terms [] (terms_of_rows rows ++ terms_of_columns cs)

in_all : (rows : List Row) (cs : List Column) (t : Term) → is_among (terms_of_columns cs) t ≡ true → is_among (all_terms rows cs) t ≡ true
in_all rows cs t h = elim (among_new [] (terms_of_rows rows ++ terms_of_columns cs) t (among_right (terms_of_rows rows) (terms_of_columns cs) t h)) [
  | inl e ↦ absurd (true≢false (sym e))
  | inr k ↦ k
]

numbered_wide : (rows : List Row) (h : IsWideRows rows) → HasWideMinor (numbered (column (all_terms rows h.columns)) (map entry h.chosen)) (suc (length (all_terms rows h.columns))) (2 ^ 63)
numbered_wide rows h =
    (let ts = all_terms rows h.columns in
    let known : AllNamed (all_terms rows h.columns) h.columns = all_named (all_terms rows h.columns) h.columns (in_all rows h.columns) in
    record {
      chosen = numbered (column ts) (map entry h.chosen);
      are_rows = part_all (numbered (column ts) (map entry h.chosen));
      columns = map (number ts) h.columns;
      are_columns = each_below ts h.columns known;
      as_many = length-map h.columns (number ts) ∙ h.square ∙ sym (length-map h.chosen entry) ∙ sym (length_numbered (column ts) (map entry h.chosen));
      wide = subst (λ z. 2 ^ 63 ≤ unsigned_abs z)
          (sym (det_named (column ts) (map entry h.chosen) (map (number ts) h.columns) ∙ ap (determinant (map entry h.chosen)) (names ts h.columns known))) h.is_large;
    })

width_bound : (rows : List Row) (ss : List SignedRow) (cs : List Column) → IsPart (map row_of ss) rows
    → width_of (numbered (column (all_terms rows cs)) (map entry ss)) (suc (length (all_terms rows cs))) ≤ full_width rows
width_bound rows ss cs part =
    (let ts = all_terms rows cs in
    let sum = column_sum (numbered (column (all_terms rows cs)) (map entry ss)) in
    let first : max 1 (sum 0) ≤ constants rows = omega (arith, sum_constants ts ss, part_sum has_one (map row_of ss) rows part) in
    let others : whole (length ts) (λ c. max 1 (sum (suc c))) ≤ whole (length ts) (λ c. weight rows (get_or ts c Right))
    = whole_le (length ts) (λ c. max 1 (sum (suc c))) (λ c. weight rows (get_or ts c Right))
    (λ c. omega (arith, sum_term ts c ss, part_sum (size_at (get_or ts c Right)) (map row_of ss) rows part)) in
    omega (
      arith,
      whole_front (length ts) (λ c. max 1 (sum c)),
      mul-le (max 1 (sum 0)) (whole (length ts) (λ c. max 1 (sum (suc c)))) (constants rows) (whole (length ts) (λ c. weight rows (get_or ts c Right))) first others,
      ap (λ n. constants rows * n) (whole_terms ts (weight rows) ∙ extra rows (terms_of_columns cs) (terms_of_rows rows) (light rows)),
    ))

-- rows that are wide have width at least 2 ^ 63
pub wide_rows_width : (rows : List Row) → IsWideRows rows → 2 ^ 63 ≤ width rows
wide_rows_width rows h =
    omega (
      arith,
      wide_width (numbered (column (all_terms rows h.columns)) (map entry h.chosen)) (suc (length (all_terms rows h.columns))) (2 ^ 63) (omega arith) (numbered_wide rows h),
      width_bound rows h.chosen h.columns h.is_part,
    )
