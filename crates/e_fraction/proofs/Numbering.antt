-- Rows over terms and rows over numbered columns: column 0 is that of the constants, and the others are the terms in order.
use Rattle.std.proofs.Common.{◌≡◌, ℕ, zero, suc, ◌<◌, ◌≤◌, ◌^◌, List, [], ◌∷◌, map, length, get_or, refl, sym, ap, ◌∙◌, arith, cond, true, false, true≢false, ◌||◌, inl, inr, subst}
use Rattle.std.specs.Prelude.{unsigned_abs}
use Rattle.std.proofs.lemmas.Bool.{cases_Bool}
use Rattle.std.proofs.lemmas.List.{length-map}
use lib.IntN.{ℤ}
use Rattle.e_literal.specs.declared.object.Term.{Term}
use Rattle.e_literal.specs.declared.object.Term.TheVariants.{Right}
use Rattle.e_literal.specs.Same.{term_eq}
use Rattle.e_literal.specs.Rows.{Row}
use Rattle.e_literal.specs.Minor.{Column, Constants, Of, SignedRow, entry, IsWide as IsWideRows}
use Rattle.e_literal.specs.Width.{is_among}
use Rattle.e_fraction.specs.Det.{det, IsPart, EachBelow, HasWideMinor}
use Rattle.e_fraction.proofs.Named.{numbered, det_named}
use Rattle.e_fraction.proofs.WidthOfRows.{part_trans}
use Rattle.e_fraction.proofs.Expand.{expand_below}
use Rattle.e_literal.proofs.Terms.{term_eq_is}

-- ---- names and numbers of columns

-- the column with this number
abbrev pub column : List Term → ℕ → Column
column ts zero = Constants
column ts (suc c) = Of (get_or ts c Right)

-- where the term stands first, or the length of the list
abbrev pub place : List Term → Term → ℕ
place [] t = 0
place (x ∷ xs) t = cond (term_eq t x) 0 (suc (place xs t))

abbrev pub number : List Term → Column → ℕ
number ts Constants = 0
number ts (Of t) = suc (place ts t)

among_later : (t x : Term) (xs : List Term) → is_among (x ∷ xs) t ≡ true → term_eq t x ≡ false → is_among xs t ≡ true
among_later t x xs h n = sym (ap (λ b. b || is_among xs t) n) ∙ h

pub place_below : (ts : List Term) (t : Term) → is_among ts t ≡ true → place ts t < length ts
place_below [] t h = absurd (true≢false (sym h))
place_below (x ∷ xs) t h = elim (cases_Bool (term_eq t x)) [
  | inl e ↦ subst (λ n. n < suc (length xs)) (sym (ap (λ b. cond b 0 (suc (place xs t))) e)) (omega arith)
  | inr n ↦ subst (λ k. k < suc (length xs)) (sym (ap (λ b. cond b 0 (suc (place xs t))) n)) (omega (arith, place_below xs t (among_later t x xs h n)))
]

pub term_at_place : (ts : List Term) (t : Term) → is_among ts t ≡ true → get_or ts (place ts t) Right ≡ t
term_at_place [] t h = absurd (true≢false (sym h))
term_at_place (x ∷ xs) t h = elim (cases_Bool (term_eq t x)) [
  | inl e ↦ ap (λ b. get_or (x ∷ xs) (cond b 0 (suc (place xs t))) Right) e ∙ sym (term_eq_is t x e)
  | inr n ↦ ap (λ b. get_or (x ∷ xs) (cond b 0 (suc (place xs t))) Right) n ∙ term_at_place xs t (among_later t x xs h n)
]

-- ---- minors

-- the rows have, in the first n columns, the entries of the signed rows
abbrev pub SameEntries : List Term → ℕ → List SignedRow → List (ℕ → ℤ) → Type 0
SameEntries ts n [] [] = Unit {0}
SameEntries ts n (s ∷ ss) (r ∷ rs) = ((c : ℕ) → c < n → r c ≡ entry s (column ts c)) × SameEntries ts n ss rs
SameEntries ts n [] (r ∷ rs) = ⊥
SameEntries ts n (s ∷ ss) [] = ⊥

-- rows that agree in the first n columns
abbrev pub SameBelow : ℕ → List (ℕ → ℤ) → List (ℕ → ℤ) → Type 0
SameBelow n [] [] = Unit {0}
SameBelow n (r ∷ rs) (q ∷ qs) = ((c : ℕ) → c < n → r c ≡ q c) × SameBelow n rs qs
SameBelow n [] (q ∷ qs) = ⊥
SameBelow n (r ∷ rs) [] = ⊥

pub det_below : (n : ℕ) (rs qs : List (ℕ → ℤ)) (cs : List ℕ) → SameBelow n rs qs → EachBelow n cs → det rs cs ≡ det qs cs
det_below n [] [] cs s b = refl
det_below n (r ∷ rs) (q ∷ qs) cs s b = expand_below n r q (det rs) (det qs) s.0 (λ ds e. det_below n rs qs ds s.1 e) cs b
det_below n [] (q ∷ qs) cs s b = absurd s
det_below n (r ∷ rs) [] cs s b = absurd s

same_numbered : (ts : List Term) (n : ℕ) (ss : List SignedRow) (rs : List (ℕ → ℤ)) → SameEntries ts n ss rs → SameBelow n rs (numbered (column ts) (map entry ss))
same_numbered ts n [] [] h = tt
same_numbered ts n (s ∷ ss) (r ∷ rs) h = (h.0, same_numbered ts n ss rs h.1)
same_numbered ts n [] (r ∷ rs) h = absurd h
same_numbered ts n (s ∷ ss) [] h = absurd h

abbrev row_of : SignedRow → Row
row_of s = s.row

-- the signed rows of some of the rows
record Chosen (ts : List Term) (n : ℕ) (ss : List SignedRow) (ps : List (ℕ → ℤ)) : Type 0 where
  some : List SignedRow
  are_part : IsPart (map row_of some) (map row_of ss)
  same : SameEntries ts n some ps

choose : (ts : List Term) (n : ℕ) (ss : List SignedRow) (rs ps : List (ℕ → ℤ)) → SameEntries ts n ss rs → IsPart ps rs → Chosen ts n ss ps
choose ts n [] [] ps h p = record { some = []; are_part = refl; same = subst (SameEntries ts n []) (sym p) tt }
choose ts n [] (r ∷ rs) ps h p = absurd h
choose ts n (s ∷ ss) [] ps h p = absurd h
choose ts n (s ∷ ss) (r ∷ rs) ps h (inl p) = (let c = choose ts n ss rs ps h.1 p in record { some = c.some; are_part = inl c.are_part; same = c.same })
choose ts n (s ∷ ss) (r ∷ rs) ps h (inr (qs, e, p)) =
    (let c = choose ts n ss rs qs h.1 p in
    record { some = s ∷ c.some; are_part = inr (map row_of c.some, refl, c.are_part); same = subst (SameEntries ts n (s ∷ c.some)) (sym e) (h.0, c.same) })

as_many : (ts : List Term) (n : ℕ) (ss : List SignedRow) (rs : List (ℕ → ℤ)) → SameEntries ts n ss rs → length ss ≡ length rs
as_many ts n [] [] h = refl
as_many ts n (s ∷ ss) (r ∷ rs) h = ap suc (as_many ts n ss rs h.1)
as_many ts n [] (r ∷ rs) h = absurd h
as_many ts n (s ∷ ss) [] h = absurd h

-- where rows over numbered columns have the entries of some rows over terms, and are wide, the rows over terms are wide
pub wide_named : (ts : List Term) (n : ℕ) (chosen : List SignedRow) (lines : List (ℕ → ℤ)) (rows : List Row)
    → SameEntries ts n chosen lines → IsPart (map (λ s. s.row) chosen) rows → HasWideMinor lines n (2 ^ 63) → IsWideRows rows
wide_named ts n chosen lines rows same part h =
    (let c = choose ts n chosen lines h.chosen same h.are_rows in
    record {
      chosen = c.some;
      is_part = part_trans (map row_of c.some) (map row_of chosen) rows c.are_part part;
      columns = map (column ts) h.columns;
      square = length-map h.columns (column ts) ∙ h.as_many ∙ sym (as_many ts n c.some h.chosen c.same);
      is_large = subst (λ z. 2 ^ 63 ≤ unsigned_abs z)
          (det_below n h.chosen (numbered (column ts) (map entry c.some)) h.columns (same_numbered ts n c.some h.chosen c.same) h.are_columns
          ∙ det_named (column ts) (map entry c.some) h.columns) h.wide;
    })
