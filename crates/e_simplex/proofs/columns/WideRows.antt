-- Where the constraints are wide with one or two further forms, the rows are wide.
use Rattle.std.proofs.Common.{◌≡◌, ◌≢◌, ℕ, zero, suc, ◌+◌, ◌<◌, ◌^◌, List, [], ◌∷◌, ◌++◌, refl, ap, arith, sym, ◌∙◌, subst, length, get_or, cond, Bool, true, false, true≢false, inl, inr, append_assoc}
use Rattle.std.specs.Prelude.{map, unsigned_abs}
use lib.IntN.{ℤ, neg_ℤ}
use borrow.Author.Differences.{abs_is}
use Rattle.e_literal.specs.declared.object.Term.{Term}
use Rattle.e_literal.specs.Rows.{Row, Sense, Zero, AtLeast, More, Not}
use Rattle.e_literal.specs.Minor.{SignedRow, entry, IsWide as IsWideRows}
use Rattle.e_fraction.specs.Det.{det, IsPart, HasWideMinor}
use Rattle.e_simplex.specs.declared.constraints.Constraint.{Constraint}
use Rattle.e_simplex.specs.Constraints.{constraint_row, rows_of}
use Rattle.e_simplex.specs.inner.Tried.{negative_constraint}
use Rattle.e_simplex.specs.Naming.{AreOnce, FormNamed, AllNamed, named_constraint, named_constraints, keeps}
use Rattle.e_simplex.specs.inner.Disequalities.{WideWith, WideWithTwo, WideWithSome}
use Rattle.e_literal.proofs.Arith.{sums}
use Rattle.e_fraction.proofs.Moved.{wide_last}
use Rattle.e_fraction.proofs.Numbering.{column, SameEntries, wide_named}
use Rattle.e_simplex.proofs.forms_not_zero.Disequal.{Similar, similar_det}
use Rattle.e_simplex.proofs.columns.SpareColumns.{narrow_wide, narrow_some}
use Rattle.e_simplex.proofs.columns.NamedConstraints.{constraint_entry, negative_entry, kept_not, within_constraints}

abbrev signed : Row → Bool → SignedRow
signed r d = record { row = r; down = d }

abbrev turned : (ℕ → ℤ) → ℕ → ℤ
turned f c = neg_ℤ (f c)

-- the row of a constraint, or that of the constraint that says less than 0, turned round
abbrev row_as : Bool → Constraint → ℕ → ℤ
row_as d l = cond d (turned (constraint_row (negative_constraint l))) (constraint_row l)

abbrev own_row : List Term → SignedRow → ℕ → ℤ
own_row ts s = row_as s.down (named_constraint ts s.row)

abbrev own_rows : List Term → List SignedRow → List (ℕ → ℤ)
own_rows ts [] = []
own_rows ts (s ∷ ss) = own_row ts s ∷ own_rows ts ss

-- the rows that do not say `not 0`
abbrev mains : List Row → List SignedRow
mains [] = []
mains (r ∷ rs) = cond (keeps true r.sense) (mains rs) (signed r false ∷ mains rs)

-- these and the one at the place k among those that do
abbrev with_one : List Row → ℕ → Bool → List SignedRow
with_one [] k d = []
with_one (r ∷ rs) zero d = cond (keeps true r.sense) (signed r d ∷ mains rs) (signed r false ∷ with_one rs zero d)
with_one (r ∷ rs) (suc k) d = cond (keeps true r.sense) (with_one rs k d) (signed r false ∷ with_one rs (suc k) d)

-- these and those at two places
abbrev with_two : List Row → ℕ → Bool → ℕ → Bool → List SignedRow
with_two [] k d j e = []
with_two (r ∷ rs) zero d zero e = []
with_two (r ∷ rs) zero d (suc j) e = cond (keeps true r.sense) (signed r d ∷ with_one rs j e) (signed r false ∷ with_two rs zero d (suc j) e)
with_two (r ∷ rs) (suc k) d zero e = cond (keeps true r.sense) (signed r e ∷ with_one rs k d) (signed r false ∷ with_two rs (suc k) d zero e)
with_two (r ∷ rs) (suc k) d (suc j) e = cond (keeps true r.sense) (with_two rs k d j e) (signed r false ∷ with_two rs (suc k) d (suc j) e)

-- ---- the constraints

rows_main : (ts : List Term) (rows : List Row) → rows_of (named_constraints false ts rows) ≡ own_rows ts (mains rows)
rows_main ts [] = refl
rows_main ts (r ∷ rs) = by r.sense r (rows_main ts rs)
  where
    by : (s : Sense) (q : Row) → rows_of (named_constraints false ts rs) ≡ own_rows ts (mains rs)
        → rows_of (cond (keeps false s) (named_constraint ts q ∷ named_constraints false ts rs) (named_constraints false ts rs)) ≡ own_rows ts (cond (keeps true s) (mains rs) (signed q false ∷ mains rs))
    by Zero q e = ap (λ v. constraint_row (named_constraint ts q) ∷ v) e
    by AtLeast q e = ap (λ v. constraint_row (named_constraint ts q) ∷ v) e
    by More q e = ap (λ v. constraint_row (named_constraint ts q) ∷ v) e
    by Not q e = e

-- ---- a row put last

module _ (ts : List Term) (n size : ℕ) where
  put_one : (b : Bool) (r : Row) (l : Constraint) (ls : List Constraint) (ms ps qs : List SignedRow) (xs : List (ℕ → ℤ)) (d : Bool) (e : Constraint) → l ≡ named_constraint ts r
      → 0 < length (cond b (l ∷ ls) ls)
      → ((ys : List (ℕ → ℤ)) → 0 < length ls → HasWideMinor (ys ++ (own_rows ts ms ++ row_as d (get_or ls 0 e) ∷ [])) n size → HasWideMinor (ys ++ own_rows ts qs) n size)
      → HasWideMinor (xs ++ (own_rows ts (cond b ms (signed r false ∷ ms)) ++ row_as d (get_or (cond b (l ∷ ls) ls) 0 e) ∷ [])) n size
      → HasWideMinor (xs ++ own_rows ts (cond b (signed r d ∷ ms) (signed r false ∷ qs))) n size
  put_one true r l ls ms ps qs xs d e q k ih h = wide_last xs (own_rows ts ms) (own_row ts (signed r d)) n size (subst (λ v. HasWideMinor (xs ++ (own_rows ts ms ++ row_as d v ∷ [])) n size) q h)
  put_one false r l ls ms ps qs xs d e q k ih h =
      subst (λ v. HasWideMinor v n size) (append_assoc xs (own_row ts (signed r false) ∷ []) (own_rows ts qs))
      (ih (xs ++ own_row ts (signed r false) ∷ []) k
      (subst (λ v. HasWideMinor v n size) (sym (append_assoc xs (own_row ts (signed r false) ∷ []) (own_rows ts ms ++ row_as d (get_or ls 0 e) ∷ []))) h))

  skip_one : (b : Bool) (r : Row) (l : Constraint) (ls : List Constraint) (ms ps qs : List SignedRow) (xs : List (ℕ → ℤ)) (k : ℕ) (d : Bool) (e : Constraint)
      → suc k < length (cond b (l ∷ ls) ls)
      → ((ys : List (ℕ → ℤ)) → k < length ls → HasWideMinor (ys ++ (own_rows ts ms ++ row_as d (get_or ls k e) ∷ [])) n size → HasWideMinor (ys ++ own_rows ts ps) n size)
      → ((ys : List (ℕ → ℤ)) → suc k < length ls → HasWideMinor (ys ++ (own_rows ts ms ++ row_as d (get_or ls (suc k) e) ∷ [])) n size → HasWideMinor (ys ++ own_rows ts qs) n size)
      → HasWideMinor (xs ++ (own_rows ts (cond b ms (signed r false ∷ ms)) ++ row_as d (get_or (cond b (l ∷ ls) ls) (suc k) e) ∷ [])) n size
      → HasWideMinor (xs ++ own_rows ts (cond b ps (signed r false ∷ qs))) n size
  skip_one true r l ls ms ps qs xs k d e m ih jh h = ih xs (omega (arith, m)) h
  skip_one false r l ls ms ps qs xs k d e m ih jh h =
      subst (λ v. HasWideMinor v n size) (append_assoc xs (own_row ts (signed r false) ∷ []) (own_rows ts qs))
      (jh (xs ++ own_row ts (signed r false) ∷ []) m
      (subst (λ v. HasWideMinor v n size) (sym (append_assoc xs (own_row ts (signed r false) ∷ []) (own_rows ts ms ++ row_as d (get_or ls (suc k) e) ∷ []))) h))

  wide_one : (rows : List Row) (k : ℕ) (d : Bool) (e : Constraint) (xs : List (ℕ → ℤ)) → k < length (named_constraints true ts rows)
      → HasWideMinor (xs ++ (own_rows ts (mains rows) ++ row_as d (get_or (named_constraints true ts rows) k e) ∷ [])) n size → HasWideMinor (xs ++ own_rows ts (with_one rows k d)) n size
  wide_one [] k d e xs l h = absurd (omega (arith, l))
  wide_one (r ∷ rs) zero d e xs l h =
      put_one (keeps true r.sense) r (named_constraint ts r) (named_constraints true ts rs) (mains rs) [] (with_one rs zero d) xs d e refl l (λ ys m g. wide_one rs zero d e ys m g) h
  wide_one (r ∷ rs) (suc k) d e xs l h =
      skip_one (keeps true r.sense) r (named_constraint ts r) (named_constraints true ts rs) (mains rs) (with_one rs k d) (with_one rs (suc k) d) xs k d e l
      (λ ys m g. wide_one rs k d e ys m g) (λ ys m g. wide_one rs (suc k) d e ys m g) h

  -- ---- two rows put last

  push_two : (xs ms : List (ℕ → ℤ)) (a b : ℕ → ℤ) → HasWideMinor (xs ++ (ms ++ a ∷ b ∷ [])) n size → HasWideMinor (xs ++ ((ms ++ b ∷ []) ++ a ∷ [])) n size
  push_two xs ms a b h =
      subst (λ v. HasWideMinor v n size) (append_assoc xs ms (b ∷ a ∷ []) ∙ ap (λ v. xs ++ v) (sym (append_assoc ms (b ∷ []) (a ∷ []))))
      (wide_last (xs ++ ms) (a ∷ []) b n size (subst (λ v. HasWideMinor v n size) (sym (append_assoc xs ms (a ∷ b ∷ []))) h))

  last_two : (xs ms : List (ℕ → ℤ)) (a b : ℕ → ℤ) → HasWideMinor (xs ++ (ms ++ a ∷ b ∷ [])) n size → HasWideMinor (xs ++ ((ms ++ a ∷ []) ++ b ∷ [])) n size
  last_two xs ms a b h = subst (λ v. HasWideMinor (xs ++ v) n size) (sym (append_assoc ms (a ∷ []) (b ∷ []))) h

  go_on : (xs zs : List (ℕ → ℤ)) (a : ℕ → ℤ) → HasWideMinor ((xs ++ a ∷ []) ++ zs) n size → HasWideMinor (xs ++ a ∷ zs) n size
  go_on xs zs a h = subst (λ v. HasWideMinor v n size) (append_assoc xs (a ∷ []) zs) h

  go_back : (xs zs : List (ℕ → ℤ)) (a : ℕ → ℤ) → HasWideMinor (xs ++ a ∷ zs) n size → HasWideMinor ((xs ++ a ∷ []) ++ zs) n size
  go_back xs zs a h = subst (λ v. HasWideMinor v n size) (sym (append_assoc xs (a ∷ []) zs)) h

  wide_two : (rows : List Row) (k : ℕ) (d : Bool) (j : ℕ) (e : Bool) (f : Constraint) (xs : List (ℕ → ℤ)) → k < length (named_constraints true ts rows) → j < length (named_constraints true ts rows) → k ≢ j
      → HasWideMinor (xs ++ (own_rows ts (mains rows) ++ row_as d (get_or (named_constraints true ts rows) k f) ∷ row_as e (get_or (named_constraints true ts rows) j f) ∷ [])) n size
      → HasWideMinor (xs ++ own_rows ts (with_two rows k d j e)) n size
  wide_two [] k d j e f xs l m a h = absurd (omega (arith, l))
  wide_two (r ∷ rs) zero d zero e f xs l m a h = absurd (a refl)
  wide_two (r ∷ rs) zero d (suc j) e f xs l m a h = by (keeps true r.sense) l m h (λ ys g. wide_one rs j e f ys g) (λ ys g i w. wide_two rs zero d (suc j) e f ys g i a w)
    where
      by : (b : Bool) → 0 < length (cond b (named_constraint ts r ∷ named_constraints true ts rs) (named_constraints true ts rs)) → suc j < length (cond b (named_constraint ts r ∷ named_constraints true ts rs) (named_constraints true ts rs))
          → HasWideMinor (xs ++ (own_rows ts (cond b (mains rs) (signed r false ∷ mains rs)) ++ row_as d (get_or (cond b (named_constraint ts r ∷ named_constraints true ts rs) (named_constraints true ts rs)) 0 f)
          ∷ row_as e (get_or (cond b (named_constraint ts r ∷ named_constraints true ts rs) (named_constraints true ts rs)) (suc j) f) ∷ [])) n size
          → ((ys : List (ℕ → ℤ)) → j < length (named_constraints true ts rs) → HasWideMinor (ys ++ (own_rows ts (mains rs) ++ row_as e (get_or (named_constraints true ts rs) j f) ∷ [])) n size → HasWideMinor (ys ++ own_rows ts (with_one rs j e)) n size)
          → ((ys : List (ℕ → ℤ)) → 0 < length (named_constraints true ts rs) → suc j < length (named_constraints true ts rs)
          → HasWideMinor (ys ++ (own_rows ts (mains rs) ++ row_as d (get_or (named_constraints true ts rs) 0 f) ∷ row_as e (get_or (named_constraints true ts rs) (suc j) f) ∷ [])) n size
          → HasWideMinor (ys ++ own_rows ts (with_two rs zero d (suc j) e)) n size)
          → HasWideMinor (xs ++ own_rows ts (cond b (signed r d ∷ with_one rs j e) (signed r false ∷ with_two rs zero d (suc j) e))) n size
      by true p q g one two =
          go_on xs (own_rows ts (with_one rs j e)) (own_row ts (signed r d))
          (one (xs ++ own_row ts (signed r d) ∷ []) (omega (arith, q))
          (go_back xs (own_rows ts (mains rs) ++ row_as e (get_or (named_constraints true ts rs) j f) ∷ []) (own_row ts (signed r d))
          (wide_last xs (own_rows ts (mains rs) ++ row_as e (get_or (named_constraints true ts rs) j f) ∷ []) (own_row ts (signed r d)) n size
          (push_two xs (own_rows ts (mains rs)) (own_row ts (signed r d)) (row_as e (get_or (named_constraints true ts rs) j f)) g))))
      by false p q g one two =
          go_on xs (own_rows ts (with_two rs zero d (suc j) e)) (own_row ts (signed r false))
          (two (xs ++ own_row ts (signed r false) ∷ []) p q
          (go_back xs (own_rows ts (mains rs) ++ row_as d (get_or (named_constraints true ts rs) 0 f) ∷ row_as e (get_or (named_constraints true ts rs) (suc j) f) ∷ []) (own_row ts (signed r false)) g))
  wide_two (r ∷ rs) (suc k) d zero e f xs l m a h = by (keeps true r.sense) l m h (λ ys g. wide_one rs k d f ys g) (λ ys g i w. wide_two rs (suc k) d zero e f ys g i a w)
    where
      by : (b : Bool) → suc k < length (cond b (named_constraint ts r ∷ named_constraints true ts rs) (named_constraints true ts rs)) → 0 < length (cond b (named_constraint ts r ∷ named_constraints true ts rs) (named_constraints true ts rs))
          → HasWideMinor (xs ++ (own_rows ts (cond b (mains rs) (signed r false ∷ mains rs)) ++ row_as d (get_or (cond b (named_constraint ts r ∷ named_constraints true ts rs) (named_constraints true ts rs)) (suc k) f)
          ∷ row_as e (get_or (cond b (named_constraint ts r ∷ named_constraints true ts rs) (named_constraints true ts rs)) 0 f) ∷ [])) n size
          → ((ys : List (ℕ → ℤ)) → k < length (named_constraints true ts rs) → HasWideMinor (ys ++ (own_rows ts (mains rs) ++ row_as d (get_or (named_constraints true ts rs) k f) ∷ [])) n size → HasWideMinor (ys ++ own_rows ts (with_one rs k d)) n size)
          → ((ys : List (ℕ → ℤ)) → suc k < length (named_constraints true ts rs) → 0 < length (named_constraints true ts rs)
          → HasWideMinor (ys ++ (own_rows ts (mains rs) ++ row_as d (get_or (named_constraints true ts rs) (suc k) f) ∷ row_as e (get_or (named_constraints true ts rs) 0 f) ∷ [])) n size
          → HasWideMinor (ys ++ own_rows ts (with_two rs (suc k) d zero e)) n size)
          → HasWideMinor (xs ++ own_rows ts (cond b (signed r e ∷ with_one rs k d) (signed r false ∷ with_two rs (suc k) d zero e))) n size
      by true p q g one two =
          go_on xs (own_rows ts (with_one rs k d)) (own_row ts (signed r e))
          (one (xs ++ own_row ts (signed r e) ∷ []) (omega (arith, p))
          (go_back xs (own_rows ts (mains rs) ++ row_as d (get_or (named_constraints true ts rs) k f) ∷ []) (own_row ts (signed r e))
          (wide_last xs (own_rows ts (mains rs) ++ row_as d (get_or (named_constraints true ts rs) k f) ∷ []) (own_row ts (signed r e)) n size
          (last_two xs (own_rows ts (mains rs)) (row_as d (get_or (named_constraints true ts rs) k f)) (own_row ts (signed r e)) g))))
      by false p q g one two =
          go_on xs (own_rows ts (with_two rs (suc k) d zero e)) (own_row ts (signed r false))
          (two (xs ++ own_row ts (signed r false) ∷ []) p q
          (go_back xs (own_rows ts (mains rs) ++ row_as d (get_or (named_constraints true ts rs) (suc k) f) ∷ row_as e (get_or (named_constraints true ts rs) 0 f) ∷ []) (own_row ts (signed r false)) g))
  wide_two (r ∷ rs) (suc k) d (suc j) e f xs l m a h =
      by (keeps true r.sense) l m h (λ ys g i w. wide_two rs k d j e f ys g i (λ q. a (ap suc q)) w) (λ ys g i w. wide_two rs (suc k) d (suc j) e f ys g i a w)
    where
      by : (b : Bool) → suc k < length (cond b (named_constraint ts r ∷ named_constraints true ts rs) (named_constraints true ts rs)) → suc j < length (cond b (named_constraint ts r ∷ named_constraints true ts rs) (named_constraints true ts rs))
          → HasWideMinor (xs ++ (own_rows ts (cond b (mains rs) (signed r false ∷ mains rs)) ++ row_as d (get_or (cond b (named_constraint ts r ∷ named_constraints true ts rs) (named_constraints true ts rs)) (suc k) f)
          ∷ row_as e (get_or (cond b (named_constraint ts r ∷ named_constraints true ts rs) (named_constraints true ts rs)) (suc j) f) ∷ [])) n size
          → ((ys : List (ℕ → ℤ)) → k < length (named_constraints true ts rs) → j < length (named_constraints true ts rs)
          → HasWideMinor (ys ++ (own_rows ts (mains rs) ++ row_as d (get_or (named_constraints true ts rs) k f) ∷ row_as e (get_or (named_constraints true ts rs) j f) ∷ [])) n size
          → HasWideMinor (ys ++ own_rows ts (with_two rs k d j e)) n size)
          → ((ys : List (ℕ → ℤ)) → suc k < length (named_constraints true ts rs) → suc j < length (named_constraints true ts rs)
          → HasWideMinor (ys ++ (own_rows ts (mains rs) ++ row_as d (get_or (named_constraints true ts rs) (suc k) f) ∷ row_as e (get_or (named_constraints true ts rs) (suc j) f) ∷ [])) n size
          → HasWideMinor (ys ++ own_rows ts (with_two rs (suc k) d (suc j) e)) n size)
          → HasWideMinor (xs ++ own_rows ts (cond b (with_two rs k d j e) (signed r false ∷ with_two rs (suc k) d (suc j) e))) n size
      by true p q g one two = one xs (omega (arith, p)) (omega (arith, q)) g
      by false p q g one two =
          go_on xs (own_rows ts (with_two rs (suc k) d (suc j) e)) (own_row ts (signed r false))
          (two (xs ++ own_row ts (signed r false) ∷ []) p q
          (go_back xs (own_rows ts (mains rs) ++ row_as d (get_or (named_constraints true ts rs) (suc k) f) ∷ row_as e (get_or (named_constraints true ts rs) (suc j) f) ∷ []) (own_row ts (signed r false)) g))

-- ---- rows turned round

record Alike (ps qs : List (ℕ → ℤ)) : Type 0 where
  some : List (ℕ → ℤ)
  are_part : IsPart some qs
  alike : Similar ps some

part_alike : (rs qs ps : List (ℕ → ℤ)) → Similar rs qs → IsPart ps rs → Alike ps qs
part_alike [] [] ps s h = record { some = []; are_part = refl; alike = subst (λ v. Similar v []) (sym h) tt }
part_alike (r ∷ rs) (q ∷ qs) ps s (inl h) = (let b = part_alike rs qs ps s.1 h in record { some = b.some; are_part = inl b.are_part; alike = b.alike })
part_alike (r ∷ rs) (q ∷ qs) ps s (inr (os, e, h)) = (let b = part_alike rs qs os s.1 h in
    record { some = q ∷ b.some; are_part = inr (b.some, refl, b.are_part); alike = subst (λ v. Similar v (q ∷ b.some)) (sym e) (s.0, b.alike) })
part_alike [] (q ∷ qs) ps s h = absurd s
part_alike (r ∷ rs) [] ps s h = absurd s

length_alike : (rs qs : List (ℕ → ℤ)) → Similar rs qs → length rs ≡ length qs
length_alike [] [] h = refl
length_alike (r ∷ rs) (q ∷ qs) h = ap suc (length_alike rs qs h.1)
length_alike [] (q ∷ qs) h = absurd h
length_alike (r ∷ rs) [] h = absurd h

wide_alike : (rs qs : List (ℕ → ℤ)) (n size : ℕ) → Similar rs qs → HasWideMinor rs n size → HasWideMinor qs n size
wide_alike rs qs n size s h =
    (let b = part_alike rs qs h.chosen s h.are_rows in
    record {
      chosen = b.some;
      are_rows = b.are_part;
      columns = h.columns;
      are_columns = h.are_columns;
      as_many = h.as_many ∙ length_alike h.chosen b.some b.alike;
      wide = elim (similar_det h.chosen b.some b.alike) [
        | inl e ↦ omega (arith, h.wide, ap unsigned_abs (e h.columns))
        | inr e ↦ omega (arith, sums, h.wide, ap unsigned_abs (e h.columns), abs_is (det b.some h.columns), abs_is (neg_ℤ (det b.some h.columns)))
      ];
    })

similar_same : (qs : List (ℕ → ℤ)) → Similar qs qs
similar_same [] = tt
similar_same (q ∷ qs) = (inl (λ c. refl), similar_same qs)

similar_turned : (ms qs : List (ℕ → ℤ)) (f : ℕ → ℤ) → Similar (ms ++ f ∷ qs) (ms ++ turned f ∷ qs)
similar_turned [] qs f = (inr (λ c. omega (arith, sums)), similar_same qs)
similar_turned (m ∷ ms) qs f = (inl (λ c. refl), similar_turned ms qs f)

-- ---- the rows that are picked are some of the rows

abbrev row_of : SignedRow → Row
row_of s = s.row

part_cond : (b : Bool) (d : Bool) (r : Row) (rs : List Row) (ms qs : List SignedRow) → IsPart (map row_of ms) rs → IsPart (map row_of qs) rs → IsPart (map row_of (cond b ms (signed r d ∷ qs))) (r ∷ rs)
part_cond true d r rs ms qs h g = inl h
part_cond false d r rs ms qs h g = inr (map row_of qs, refl, g)

part_both : (b : Bool) (d e : Bool) (r : Row) (rs : List Row) (ms qs : List SignedRow) → IsPart (map row_of ms) rs → IsPart (map row_of qs) rs → IsPart (map row_of (cond b (signed r d ∷ ms) (signed r e ∷ qs))) (r ∷ rs)
part_both true d e r rs ms qs h g = inr (map row_of ms, refl, h)
part_both false d e r rs ms qs h g = inr (map row_of qs, refl, g)

part_none : (rs : List Row) → IsPart [] rs
part_none [] = refl
part_none (r ∷ rs) = inl (part_none rs)

part_mains : (rows : List Row) → IsPart (map row_of (mains rows)) rows
part_mains [] = refl
part_mains (r ∷ rs) = part_cond (keeps true r.sense) false r rs (mains rs) (mains rs) (part_mains rs) (part_mains rs)

part_one : (rows : List Row) (k : ℕ) (d : Bool) → IsPart (map row_of (with_one rows k d)) rows
part_one [] k d = refl
part_one (r ∷ rs) zero d = part_both (keeps true r.sense) d false r rs (mains rs) (with_one rs zero d) (part_mains rs) (part_one rs zero d)
part_one (r ∷ rs) (suc k) d = part_cond (keeps true r.sense) false r rs (with_one rs k d) (with_one rs (suc k) d) (part_one rs k d) (part_one rs (suc k) d)

part_two : (rows : List Row) (k : ℕ) (d : Bool) (j : ℕ) (e : Bool) → IsPart (map row_of (with_two rows k d j e)) rows
part_two [] k d j e = refl
part_two (r ∷ rs) zero d zero e = part_none (r ∷ rs)
part_two (r ∷ rs) zero d (suc j) e = part_both (keeps true r.sense) d false r rs (with_one rs j e) (with_two rs zero d (suc j) e) (part_one rs j e) (part_two rs zero d (suc j) e)
part_two (r ∷ rs) (suc k) d zero e = part_both (keeps true r.sense) e false r rs (with_one rs k d) (with_two rs (suc k) d zero e) (part_one rs k d) (part_two rs (suc k) d zero e)
part_two (r ∷ rs) (suc k) d (suc j) e = part_cond (keeps true r.sense) false r rs (with_two rs k d j e) (with_two rs (suc k) d (suc j) e) (part_two rs k d j e) (part_two rs (suc k) d (suc j) e)

-- ---- and have the entries of the rows

abbrev AllOk : List Term → List SignedRow → Type 0
AllOk ts [] = Unit {0}
AllOk ts (s ∷ ss) = (FormNamed ts s.row.form × (s.down ≡ true → s.row.sense ≡ Not)) × AllOk ts ss

ok_cond : (b : Bool) (ts : List Term) (r : Row) (ms qs : List SignedRow) → FormNamed ts r.form → AllOk ts ms → AllOk ts qs → AllOk ts (cond b ms (signed r false ∷ qs))
ok_cond true ts r ms qs f h g = h
ok_cond false ts r ms qs f h g = ((f, λ e. absurd (true≢false (sym e))), g)

ok_both : (b : Bool) (ts : List Term) (d : Bool) (r : Row) (ms qs : List SignedRow) → (b ≡ true → r.sense ≡ Not) → FormNamed ts r.form → AllOk ts ms → AllOk ts qs
    → AllOk ts (cond b (signed r d ∷ ms) (signed r false ∷ qs))
ok_both true ts d r ms qs n f h g = ((f, λ e. n refl), h)
ok_both false ts d r ms qs n f h g = ((f, λ e. absurd (true≢false (sym e))), g)

ok_mains : (ts : List Term) (rows : List Row) → AllNamed ts rows → AllOk ts (mains rows)
ok_mains ts [] h = tt
ok_mains ts (r ∷ rs) h = ok_cond (keeps true r.sense) ts r (mains rs) (mains rs) h.0 (ok_mains ts rs h.1) (ok_mains ts rs h.1)

ok_one : (ts : List Term) (rows : List Row) (k : ℕ) (d : Bool) → AllNamed ts rows → AllOk ts (with_one rows k d)
ok_one ts [] k d h = tt
ok_one ts (r ∷ rs) zero d h = ok_both (keeps true r.sense) ts d r (mains rs) (with_one rs zero d) (kept_not r.sense) h.0 (ok_mains ts rs h.1) (ok_one ts rs zero d h.1)
ok_one ts (r ∷ rs) (suc k) d h = ok_cond (keeps true r.sense) ts r (with_one rs k d) (with_one rs (suc k) d) h.0 (ok_one ts rs k d h.1) (ok_one ts rs (suc k) d h.1)

ok_two : (ts : List Term) (rows : List Row) (k : ℕ) (d : Bool) (j : ℕ) (e : Bool) → AllNamed ts rows → AllOk ts (with_two rows k d j e)
ok_two ts [] k d j e h = tt
ok_two ts (r ∷ rs) zero d zero e h = tt
ok_two ts (r ∷ rs) zero d (suc j) e h = ok_both (keeps true r.sense) ts d r (with_one rs j e) (with_two rs zero d (suc j) e) (kept_not r.sense) h.0 (ok_one ts rs j e h.1) (ok_two ts rs zero d (suc j) e h.1)
ok_two ts (r ∷ rs) (suc k) d zero e h = ok_both (keeps true r.sense) ts e r (with_one rs k d) (with_two rs (suc k) d zero e) (kept_not r.sense) h.0 (ok_one ts rs k d h.1) (ok_two ts rs (suc k) d zero e h.1)
ok_two ts (r ∷ rs) (suc k) d (suc j) e h = ok_cond (keeps true r.sense) ts r (with_two rs k d j e) (with_two rs (suc k) d (suc j) e) h.0 (ok_two ts rs k d j e h.1) (ok_two ts rs (suc k) d (suc j) e h.1)

own_entry : (ts : List Term) (d : Bool) (r : Row) (c : ℕ) → AreOnce ts → FormNamed ts r.form → (d ≡ true → r.sense ≡ Not) → c < length ts + 1
    → row_as d (named_constraint ts r) c ≡ entry (signed r d) (column ts c)
own_entry ts true r c o h n l = negative_entry ts r c (n refl) o h l
own_entry ts false r c o h n l = constraint_entry ts r c o h l

own_entries : (ts : List Term) (ss : List SignedRow) → AreOnce ts → AllOk ts ss → SameEntries ts (length ts + 1) ss (own_rows ts ss)
own_entries ts [] o h = tt
own_entries ts (s ∷ ss) o h = (λ c l. own_entry ts s.down s.row c o h.0.0 h.0.1 l, own_entries ts ss o h.1)

-- ---- the rows are wide

rows_append : (xs ys : List Constraint) → rows_of (xs ++ ys) ≡ rows_of xs ++ rows_of ys
rows_append [] ys = refl
rows_append (x ∷ xs) ys = ap (λ v. constraint_row x ∷ v) (rows_append xs ys)

module _ (ts : List Term) (rows : List Row) (o : AreOnce ts) (a : AllNamed ts rows) where
  wide_main : HasWideMinor (rows_of (named_constraints false ts rows)) (length ts + 1) (2 ^ 63) → IsWideRows rows
  wide_main h =
      wide_named ts (length ts + 1) (mains rows) (own_rows ts (mains rows)) rows (own_entries ts (mains rows) o (ok_mains ts rows a)) (part_mains rows)
      (subst (λ v. HasWideMinor v (length ts + 1) (2 ^ 63)) (rows_main ts rows) h)

  signed_one : (k : ℕ) (d : Bool) (e : Constraint) → k < length (named_constraints true ts rows)
      → HasWideMinor (own_rows ts (mains rows) ++ row_as d (get_or (named_constraints true ts rows) k e) ∷ []) (length ts + 1) (2 ^ 63) → IsWideRows rows
  signed_one k d e l h =
      wide_named ts (length ts + 1) (with_one rows k d) (own_rows ts (with_one rows k d)) rows (own_entries ts (with_one rows k d) o (ok_one ts rows k d a)) (part_one rows k d)
      (wide_one ts (length ts + 1) (2 ^ 63) rows k d e [] l h)

  signed_two : (k : ℕ) (d : Bool) (j : ℕ) (e : Constraint) → k < length (named_constraints true ts rows) → j < length (named_constraints true ts rows) → k ≢ j
      → HasWideMinor (own_rows ts (mains rows) ++ row_as d (get_or (named_constraints true ts rows) k e) ∷ constraint_row (get_or (named_constraints true ts rows) j e) ∷ []) (length ts + 1) (2 ^ 63) → IsWideRows rows
  signed_two k d j e l m n h =
      wide_named ts (length ts + 1) (with_two rows k d j false) (own_rows ts (with_two rows k d j false)) rows (own_entries ts (with_two rows k d j false) o (ok_two ts rows k d j false a))
      (part_two rows k d j false)
      (wide_two ts (length ts + 1) (2 ^ 63) rows k d j false e [] l m n h)

  one_constraint : Constraint
  one_constraint = named_constraint ts (record { sense = More; form = [] })

  rows_of_one : (f : Constraint) → rows_of (named_constraints false ts rows ++ f ∷ []) ≡ own_rows ts (mains rows) ++ constraint_row f ∷ []
  rows_of_one f = rows_append (named_constraints false ts rows) (f ∷ []) ∙ ap (λ v. v ++ constraint_row f ∷ []) (rows_main ts rows)

  rows_of_two : (f g : Constraint) → rows_of ((named_constraints false ts rows ++ f ∷ []) ++ g ∷ []) ≡ own_rows ts (mains rows) ++ constraint_row f ∷ constraint_row g ∷ []
  rows_of_two f g =
      rows_append (named_constraints false ts rows ++ f ∷ []) (g ∷ []) ∙ ap (λ v. v ++ constraint_row g ∷ []) (rows_of_one f)
      ∙ append_assoc (own_rows ts (mains rows)) (constraint_row f ∷ []) (constraint_row g ∷ [])

  wide_with : (k : ℕ) → k < length (named_constraints true ts rows) → WideWith (length ts + 1) (named_constraints false ts rows) (named_constraints true ts rows) k → IsWideRows rows
  wide_with k l h = elim (h one_constraint) [
    | inl g ↦ signed_one k false one_constraint l (subst (λ v. HasWideMinor v (length ts + 1) (2 ^ 63)) (rows_of_one (get_or (named_constraints true ts rows) k one_constraint)) g)
    | inr g ↦ signed_one k true one_constraint l
        (wide_alike (own_rows ts (mains rows) ++ constraint_row (negative_constraint (get_or (named_constraints true ts rows) k one_constraint)) ∷ [])
        (own_rows ts (mains rows) ++ turned (constraint_row (negative_constraint (get_or (named_constraints true ts rows) k one_constraint))) ∷ []) (length ts + 1) (2 ^ 63)
        (similar_turned (own_rows ts (mains rows)) [] (constraint_row (negative_constraint (get_or (named_constraints true ts rows) k one_constraint))))
        (subst (λ v. HasWideMinor v (length ts + 1) (2 ^ 63)) (rows_of_one (negative_constraint (get_or (named_constraints true ts rows) k one_constraint))) g))
  ]

  wide_with_two : (k : ℕ) → k < length (named_constraints true ts rows) → WideWithTwo (length ts + 1) (named_constraints false ts rows) (named_constraints true ts rows) k → IsWideRows rows
  wide_with_two k l h = elim (h.wide one_constraint) [
    | inl g ↦ signed_two k false h.place one_constraint l h.here (λ q. h.other (sym q))
        (subst (λ v. HasWideMinor v (length ts + 1) (2 ^ 63)) (rows_of_two (get_or (named_constraints true ts rows) k one_constraint) (get_or (named_constraints true ts rows) h.place one_constraint)) g)
    | inr g ↦ signed_two k true h.place one_constraint l h.here (λ q. h.other (sym q))
        (wide_alike (own_rows ts (mains rows) ++ constraint_row (negative_constraint (get_or (named_constraints true ts rows) k one_constraint)) ∷ constraint_row (get_or (named_constraints true ts rows) h.place one_constraint) ∷ [])
        (own_rows ts (mains rows) ++ turned (constraint_row (negative_constraint (get_or (named_constraints true ts rows) k one_constraint))) ∷ constraint_row (get_or (named_constraints true ts rows) h.place one_constraint) ∷ []) (length ts + 1) (2 ^ 63)
        (similar_turned (own_rows ts (mains rows)) (constraint_row (get_or (named_constraints true ts rows) h.place one_constraint) ∷ []) (constraint_row (negative_constraint (get_or (named_constraints true ts rows) k one_constraint))))
        (subst (λ v. HasWideMinor v (length ts + 1) (2 ^ 63)) (rows_of_two (negative_constraint (get_or (named_constraints true ts rows) k one_constraint)) (get_or (named_constraints true ts rows) h.place one_constraint)) g))
  ]

  wide_with_some : WideWithSome (length ts + 1) (named_constraints false ts rows) (named_constraints true ts rows) → IsWideRows rows
  wide_with_some (k, l, inl h) = wide_with k l h
  wide_with_some (k, l, inr h) = wide_with_two k l h

-- ---- the same over more columns than those of the terms

module _ (ts : List Term) (rows : List Row) (w : ℕ) (o : AreOnce ts) (a : AllNamed ts rows) where
  pub wide_over : HasWideMinor (rows_of (named_constraints false ts rows)) w (2 ^ 63) → IsWideRows rows
  wide_over h = wide_main ts rows o a (narrow_wide (length ts + 1) w (named_constraints false ts rows) (omega arith) (within_constraints false ts rows a) h)

  pub wide_with_some_over : WideWithSome w (named_constraints false ts rows) (named_constraints true ts rows) → IsWideRows rows
  wide_with_some_over h =
      wide_with_some ts rows o a
      (narrow_some (length ts + 1) w (named_constraints false ts rows) (named_constraints true ts rows) (omega arith) (within_constraints false ts rows a) (within_constraints true ts rows a) h)
