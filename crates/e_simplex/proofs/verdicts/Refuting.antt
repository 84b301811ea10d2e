-- Weights that refute constraints are multipliers that refute rows.
use Rattle.std.proofs.Common.{◌≡◌, ℕ, zero, suc, ◌+◌, ◌<◌, ◌≤◌, ◌^◌, List, [], ◌∷◌, ◌++◌, refl, ap, ap₂, arith, sym, ◌∙◌, subst, length, get_or, take, cond, eqb, Bool, true, false, true≢false, ◌⊎◌, inl, inr, Result, Ok, Err, IfOk}
use Rattle.std.specs.Prelude.{unsigned_abs, neg_ℤ}
use Rattle.std.proofs.lemmas.Bool.{cases_lt, ne_eqb}
use Rattle.std.proofs.lemmas.List.{length_push}
use lib.IntN.{ℤ, pos, ◌+ℤ◌, ◌*ℤ◌, *ℤ-zero, zero-*ℤ}
use lib.Signed.{◌≤ℤ◌, ◌<ℤ◌}
use Rattle.e_literal.specs.declared.object.Term.{Term}
use Rattle.e_literal.specs.Rows.{Row, Sense, Zero, AtLeast, More, Not, Summands, coefficient, negative}
use Rattle.e_literal.specs.Absurd.{total}
use Rattle.e_fraction.specs.declared.row.Row.{Row as GivenRow}
use Rattle.e_fraction.specs.Views.{view_of_row, views_of_rows}
use Rattle.e_simplex.specs.declared.constraints.Constraint.{Constraint}
use Rattle.e_simplex.specs.declared.constraints.Monomial.{Monomial}
use Rattle.e_simplex.specs.declared.constraints.ConstraintSense.{ConstraintSense}
use Rattle.e_simplex.specs.declared.constraints.ConstraintSense.TheVariants.{Zero as SenseZero, AtLeast as SenseAtLeast, More as SenseMore}
use Rattle.e_simplex.specs.Entries.{AllSmall}
use Rattle.e_simplex.specs.Constraints.{form_at, weighed_at, MayWeigh, IsAbsurd, AllFormsWithin, FormWithin}
use Rattle.e_simplex.specs.Naming.{place_of, AreOnce, FormNamed, AllNamed, named_form, named_constraint, named_constraints, constraint_sense, keeps}
use Rattle.e_simplex.specs.inner.RowMultipliers.{row_multipliers, count_nots}
use Rattle.e_simplex.specs.Answer.{each_weighed, MayTake, AreMultipliers, TakesMore, Refutes, RefutesBoth, IsNotAt, as_more, as_less}
use Rattle.e_simplex.specs.inner.Disequalities.{AreBothRefuted, AreFurther, WideWithSome, AreUnequal}
use Rattle.e_simplex.specs.Solved.{IsSolved, columns_of, constraints_of}
use Rattle.e_simplex.specs.declared.table.Table.{Table}
use Rattle.e_literal.specs.Minor.{IsWide}
use Rattle.e_literal.specs.Solution.{HasSolution}
use Rattle.e_simplex.specs.Answer.{IsVerdict, IsHolds, assigned_value}
use Rattle.e_simplex.specs.Answer.{IsAbsurd as IsAbsurdVerdict}
use Rattle.e_simplex.specs.declared.decision.Verdict.{Verdict}
use Rattle.e_simplex.specs.declared.decision.Verdict.TheVariants.{Absurd, Holds, TooWide}
use Rattle.e_simplex.specs.inner.Tried.{neg_form, negative_constraint}
use Rattle.e_literal.proofs.Arith.{sums}
use Rattle.e_literal.proofs.Valued.{coefficient_negative}
use Rattle.e_fraction.proofs.Minors.{unit-other}
use Rattle.e_simplex.proofs.columns.Negatives.{negated_at, negative_within}
use Rattle.e_simplex.proofs.outcomes.Deciding.{forms_push}
use Rattle.e_simplex.proofs.columns.NamedConstraints.{kept_not, more_constraints, within_constraints, form_column, form_past, absent_term}
use Rattle.e_simplex.proofs.verdicts.Assigning.{main_cons}
use Rattle.e_simplex.proofs.columns.Places.{term_at}

-- ---- the rows with one that says `not 0` changed

abbrev pub with_form : (Summands → Summands) → List Row → ℕ → List Row
with_form g [] k = []
with_form g (r ∷ rs) zero = cond (keeps true r.sense) (record { sense = More; form = g r.form } ∷ rs) (r ∷ with_form g rs zero)
with_form g (r ∷ rs) (suc k) = cond (keeps true r.sense) (r ∷ with_form g rs k) (r ∷ with_form g rs (suc k))

same_form : Summands → Summands
same_form f = f

as_more_is : (rows : List GivenRow) (p k : ℕ) → IsNotAt (views_of_rows rows) p → count_nots (views_of_rows (take p rows)) ≡ k → as_more (views_of_rows rows) p ≡ with_form (λ f. f) (views_of_rows rows) k
as_more_is [] p k h e = absurd h
as_more_is (r ∷ rs) zero k h e =
    sym (ap (λ b. cond b (record { sense = More; form = (view_of_row r).form } ∷ views_of_rows rs) (view_of_row r ∷ with_form (λ f. f) (views_of_rows rs) zero)) (ap (keeps true) h))
    ∙ ap (with_form (λ f. f) (views_of_rows (r ∷ rs))) e
as_more_is (r ∷ rs) (suc p) k h e = by (keeps true (view_of_row r).sense) refl (λ j q. as_more_is rs p j h q) k e
  where
    by : (b : Bool) → keeps true (view_of_row r).sense ≡ b → ((j : ℕ) → count_nots (views_of_rows (take p rs)) ≡ j → as_more (views_of_rows rs) p ≡ with_form (λ f. f) (views_of_rows rs) j)
        → (k : ℕ) → cond b (suc (count_nots (views_of_rows (take p rs)))) (count_nots (views_of_rows (take p rs))) ≡ k
        → view_of_row r ∷ as_more (views_of_rows rs) p ≡ with_form (λ f. f) (views_of_rows (r ∷ rs)) k
    by true q ih zero f = absurd (omega (arith, f))
    by true q ih (suc k) f = ap (λ v. view_of_row r ∷ v) (ih k (omega (arith, f)))
        ∙ sym (ap (λ b. cond b (view_of_row r ∷ with_form (λ f. f) (views_of_rows rs) k) (view_of_row r ∷ with_form (λ f. f) (views_of_rows rs) (suc k))) q)
    by false q ih zero f = ap (λ v. view_of_row r ∷ v) (ih zero f)
        ∙ sym (ap (λ b. cond b (record { sense = More; form = (view_of_row r).form } ∷ views_of_rows rs) (view_of_row r ∷ with_form (λ f. f) (views_of_rows rs) zero)) q)
    by false q ih (suc k) f = ap (λ v. view_of_row r ∷ v) (ih (suc k) f)
        ∙ sym (ap (λ b. cond b (view_of_row r ∷ with_form (λ f. f) (views_of_rows rs) k) (view_of_row r ∷ with_form (λ f. f) (views_of_rows rs) (suc k))) q)

as_less_is : (rows : List GivenRow) (p k : ℕ) → IsNotAt (views_of_rows rows) p → count_nots (views_of_rows (take p rows)) ≡ k → as_less (views_of_rows rows) p ≡ with_form negative (views_of_rows rows) k
as_less_is [] p k h e = absurd h
as_less_is (r ∷ rs) zero k h e =
    sym (ap (λ b. cond b (record { sense = More; form = negative (view_of_row r).form } ∷ views_of_rows rs) (view_of_row r ∷ with_form negative (views_of_rows rs) zero)) (ap (keeps true) h))
    ∙ ap (with_form negative (views_of_rows (r ∷ rs))) e
as_less_is (r ∷ rs) (suc p) k h e = by (keeps true (view_of_row r).sense) refl (λ j q. as_less_is rs p j h q) k e
  where
    by : (b : Bool) → keeps true (view_of_row r).sense ≡ b → ((j : ℕ) → count_nots (views_of_rows (take p rs)) ≡ j → as_less (views_of_rows rs) p ≡ with_form negative (views_of_rows rs) j)
        → (k : ℕ) → cond b (suc (count_nots (views_of_rows (take p rs)))) (count_nots (views_of_rows (take p rs))) ≡ k
        → view_of_row r ∷ as_less (views_of_rows rs) p ≡ with_form negative (views_of_rows (r ∷ rs)) k
    by true q ih zero f = absurd (omega (arith, f))
    by true q ih (suc k) f = ap (λ v. view_of_row r ∷ v) (ih k (omega (arith, f)))
        ∙ sym (ap (λ b. cond b (view_of_row r ∷ with_form negative (views_of_rows rs) k) (view_of_row r ∷ with_form negative (views_of_rows rs) (suc k))) q)
    by false q ih zero f = ap (λ v. view_of_row r ∷ v) (ih zero f)
        ∙ sym (ap (λ b. cond b (record { sense = More; form = negative (view_of_row r).form } ∷ views_of_rows rs) (view_of_row r ∷ with_form negative (views_of_rows rs) zero)) q)
    by false q ih (suc k) f = ap (λ v. view_of_row r ∷ v) (ih (suc k) f)
        ∙ sym (ap (λ b. cond b (view_of_row r ∷ with_form negative (views_of_rows rs) k) (view_of_row r ∷ with_form negative (views_of_rows rs) (suc k))) q)

-- ---- sums of constraints, with the weights from n on

abbrev constraints_total : List Constraint → List ℤ → ℕ → ℕ → ℤ
constraints_total [] ws n x = pos 0
constraints_total (l ∷ ls) ws n x = get_or ws n (pos 0) *ℤ form_at l.form x +ℤ constraints_total ls ws (suc n) x

total_shift : (ls : List Constraint) (m : ℤ) (ms : List ℤ) (n x : ℕ) → constraints_total ls (m ∷ ms) (suc n) x ≡ constraints_total ls ms n x
total_shift [] m ms n x = refl
total_shift (l ∷ ls) m ms n x = ap (λ v. get_or ms n (pos 0) *ℤ form_at l.form x +ℤ v) (total_shift ls m ms (suc n) x)

weighed_is : (ls : List Constraint) (ws : List ℤ) (x : ℕ) → length ls ≤ length ws → weighed_at ls ws x ≡ constraints_total ls ws 0 x
weighed_is [] ws x l = refl
weighed_is (k ∷ ks) [] x l = absurd (omega (arith, l))
weighed_is (k ∷ ks) (m ∷ ms) x l = ap (λ v. m *ℤ form_at k.form x +ℤ v) (weighed_is ks ms x (omega (arith, l)) ∙ sym (total_shift ks m ms 0 x))

total_push : (ls : List Constraint) (l : Constraint) (ws : List ℤ) (n m x : ℕ) → m ≡ n + length ls → constraints_total (ls ++ l ∷ []) ws n x ≡ constraints_total ls ws n x +ℤ get_or ws m (pos 0) *ℤ form_at l.form x
total_push [] l ws n m x e = omega (arith, sums, ap (λ i. get_or ws i (pos 0) *ℤ form_at l.form x) e, ap (λ i. get_or ws i (pos 0) *ℤ form_at l.form x) (plus_none n))
  where
    plus_none : (a : ℕ) → a + 0 ≡ a
    plus_none a = omega arith
total_push (k ∷ ks) l ws n m x e = omega (arith, sums, total_push ks l ws (suc n) m x (omega (arith, e)))

form_past_all : (form : List Monomial) (w x : ℕ) → FormWithin w form → w ≤ x → form_at form x ≡ pos 0
form_past_all [] w x h l = refl
form_past_all (p ∷ ps) w x h l =
    omega (
      arith,
      sums,
      ap (λ v. p.coefficient *ℤ v) (unit-other p.column x (λ q. omega (arith, q, l, (h 0 p (omega arith)).1))),
      *ℤ-zero p.coefficient,
      form_past_all ps w x (λ k d n. h (suc k) d (omega (arith, n))) l,
    )

weighed_past : (ls : List Constraint) (ws : List ℤ) (w x : ℕ) → AllFormsWithin w ls → w ≤ x → weighed_at ls ws x ≡ pos 0
weighed_past [] ws w x h l = refl
weighed_past (k ∷ ks) [] w x h l = refl
weighed_past (k ∷ ks) (m ∷ ms) w x h l =
    omega (arith, sums, ap (λ v. m *ℤ v) (form_past_all k.form w x (h 0 k (omega arith)) l), *ℤ-zero m, weighed_past ks ms w x (λ i d n. h (suc i) d (omega (arith, n))) l)

-- ---- the sum of the rows

eqb_more : (k : ℕ) → eqb (suc k) 0 ≡ false
eqb_more k = ne_eqb (suc k) 0 (λ q. omega (arith, q))

module _ (ts : List Term) (ws : List ℤ) (last : ℤ) (t : Term) (x : ℕ) (same : (form : Summands) → FormNamed ts form → coefficient form t ≡ form_at (named_form ts form) x) where
  total_none : (rows : List Row) (n : ℕ) → AllNamed ts rows → total (each_weighed rows (row_multipliers rows ws n zero last)) t ≡ constraints_total (named_constraints false ts rows) ws n x
  total_none [] n a = refl
  total_none (r ∷ rs) n a =
      by (keeps true r.sense) (λ m. total_none rs m a.1) ∙ sym (ap (λ v. constraints_total v ws n x) (main_cons ts r rs))
    where
      by : (b : Bool) → ((m : ℕ) → total (each_weighed rs (row_multipliers rs ws m zero last)) t ≡ constraints_total (named_constraints false ts rs) ws m x)
          → total (each_weighed (r ∷ rs) (cond b (pos 0 ∷ row_multipliers rs ws n zero last) (get_or ws n (pos 0) ∷ row_multipliers rs ws (suc n) zero last))) t
          ≡ constraints_total (cond b (named_constraints false ts rs) (named_constraint ts r ∷ named_constraints false ts rs)) ws n x
      by true ih = omega (arith, sums, zero-*ℤ (coefficient r.form t), ih n)
      by false ih = ap₂ {A = ℤ} {B = ℤ} (λ u v. u +ℤ v) (ap (λ v. get_or ws n (pos 0) *ℤ v) (same r.form a.0)) (ih (suc n))

  module _ (g : Summands → Summands) (h : List Monomial → List Monomial) (turned : (form : Summands) → FormNamed ts form → coefficient (g form) t ≡ form_at (h (named_form ts form)) x) where
    total_one : (rows : List Row) (k n : ℕ) (d : Constraint) → AllNamed ts rows → k < length (named_constraints true ts rows)
        → total (each_weighed (with_form g rows k) (row_multipliers rows ws n (suc k) last)) t ≡ constraints_total (named_constraints false ts rows) ws n x +ℤ last *ℤ form_at (h (get_or (named_constraints true ts rows) k d).form) x
    total_one [] k n d a l = absurd (omega (arith, l))
    total_one (r ∷ rs) zero n d a l =
        by (keeps true r.sense) l (λ m p. total_one rs zero m d a.1 p)
        ∙ sym (ap (λ v. constraints_total v ws n x +ℤ last *ℤ form_at (h (get_or (named_constraints true ts (r ∷ rs)) 0 d).form) x) (main_cons ts r rs))
      where
        by : (b : Bool) → 0 < length (cond b (named_constraint ts r ∷ named_constraints true ts rs) (named_constraints true ts rs))
            → ((m : ℕ) → 0 < length (named_constraints true ts rs) → total (each_weighed (with_form g rs zero) (row_multipliers rs ws m 1 last)) t
            ≡ constraints_total (named_constraints false ts rs) ws m x +ℤ last *ℤ form_at (h (get_or (named_constraints true ts rs) 0 d).form) x)
            → total (each_weighed (cond b (record { sense = More; form = g r.form } ∷ rs) (r ∷ with_form g rs zero)) (cond b (last ∷ row_multipliers rs ws n zero last) (get_or ws n (pos 0) ∷ row_multipliers rs ws (suc n) 1 last))) t
            ≡ constraints_total (cond b (named_constraints false ts rs) (named_constraint ts r ∷ named_constraints false ts rs)) ws n x +ℤ last *ℤ form_at (h (get_or (cond b (named_constraint ts r ∷ named_constraints true ts rs) (named_constraints true ts rs)) 0 d).form) x
        by true p ih = omega (arith, sums, ap (λ v. last *ℤ v) (turned r.form a.0), total_none rs n a.1)
        by false p ih = omega (arith, sums, ap (λ v. get_or ws n (pos 0) *ℤ v) (same r.form a.0), ih (suc n) p)
    total_one (r ∷ rs) (suc k) n d a l =
        ap (λ e. total (each_weighed (with_form g (r ∷ rs) (suc k)) (cond (keeps true r.sense) (cond e last (pos 0) ∷ row_multipliers rs ws n (suc k) last) (get_or ws n (pos 0) ∷ row_multipliers rs ws (suc n) (suc (suc k)) last))) t) (eqb_more k)
        ∙ by (keeps true r.sense) l (λ m p. total_one rs k m d a.1 p) (λ m p. total_one rs (suc k) m d a.1 p)
        ∙ sym (ap (λ v. constraints_total v ws n x +ℤ last *ℤ form_at (h (get_or (named_constraints true ts (r ∷ rs)) (suc k) d).form) x) (main_cons ts r rs))
      where
        by : (b : Bool) → suc k < length (cond b (named_constraint ts r ∷ named_constraints true ts rs) (named_constraints true ts rs))
            → ((m : ℕ) → k < length (named_constraints true ts rs) → total (each_weighed (with_form g rs k) (row_multipliers rs ws m (suc k) last)) t
            ≡ constraints_total (named_constraints false ts rs) ws m x +ℤ last *ℤ form_at (h (get_or (named_constraints true ts rs) k d).form) x)
            → ((m : ℕ) → suc k < length (named_constraints true ts rs) → total (each_weighed (with_form g rs (suc k)) (row_multipliers rs ws m (suc (suc k)) last)) t
            ≡ constraints_total (named_constraints false ts rs) ws m x +ℤ last *ℤ form_at (h (get_or (named_constraints true ts rs) (suc k) d).form) x)
            → total (each_weighed (cond b (r ∷ with_form g rs k) (r ∷ with_form g rs (suc k))) (cond b (pos 0 ∷ row_multipliers rs ws n (suc k) last) (get_or ws n (pos 0) ∷ row_multipliers rs ws (suc n) (suc (suc k)) last))) t
            ≡ constraints_total (cond b (named_constraints false ts rs) (named_constraint ts r ∷ named_constraints false ts rs)) ws n x +ℤ last *ℤ form_at (h (get_or (cond b (named_constraint ts r ∷ named_constraints true ts rs) (named_constraints true ts rs)) (suc k) d).form) x
        by true p ih jh = omega (arith, sums, zero-*ℤ (coefficient r.form t), ih n (omega (arith, p)))
        by false p ih jh = omega (arith, sums, ap (λ v. get_or ws n (pos 0) *ℤ v) (same r.form a.0), jh (suc n) p)

-- ---- signs

abbrev AllWeigh : List Constraint → List ℤ → ℕ → Type 0
AllWeigh [] ws n = Unit {0}
AllWeigh (l ∷ ls) ws n = MayWeigh l.sense (get_or ws n (pos 0)) × AllWeigh ls ws (suc n)

all_weigh : (ls : List Constraint) (ws : List ℤ) (n : ℕ) → ((i m : ℕ) (d : Constraint) → i < length ls → m ≡ n + i → MayWeigh (get_or ls i d).sense (get_or ws m (pos 0))) → AllWeigh ls ws n
all_weigh [] ws n h = tt
all_weigh (l ∷ ls) ws n h = (h 0 n l (omega arith) (omega arith), all_weigh ls ws (suc n) (λ i m d p e. h (suc i) m d (omega (arith, p)) (omega (arith, e))))

weigh_append : (ls : List Constraint) (l : Constraint) (ws : List ℤ) (n m : ℕ) → m ≡ n + length ls → AllWeigh (ls ++ l ∷ []) ws n → AllWeigh ls ws n × MayWeigh l.sense (get_or ws m (pos 0))
weigh_append [] l ws n m e h = (tt, subst (λ i. MayWeigh l.sense (get_or ws i (pos 0))) (omega (arith, e)) h.0)
weigh_append (k ∷ ks) l ws n m e h = (let r = weigh_append ks l ws (suc n) m (omega (arith, e)) h.1 in ((h.0, r.0), r.1))

abbrev HasMore : List Constraint → List ℤ → ℕ → Type 0
HasMore [] ws n = ⊥
HasMore (l ∷ ls) ws n = ((l.sense ≡ SenseMore) × (pos 1 ≤ℤ get_or ws n (pos 0))) ⊎ HasMore ls ws (suc n)

has_more : (ls : List Constraint) (ws : List ℤ) (n i m : ℕ) → i < length ls → m ≡ n + i → ((d : Constraint) → (get_or ls i d).sense ≡ SenseMore) → pos 0 <ℤ get_or ws m (pos 0) → HasMore ls ws n
has_more [] ws n i m l e h g = absurd (omega (arith, l))
has_more (k ∷ ks) ws n zero m l e h g =
    (let q : m ≡ n = omega (arith, e) in
    let p : pos 1 ≤ℤ get_or ws m (pos 0) = omega (arith, sums, g) in
    inl (h k, subst (λ j. pos 1 ≤ℤ get_or ws j (pos 0)) q p))
has_more (k ∷ ks) ws n (suc i) m l e h g = inr (has_more ks ws (suc n) i m (omega (arith, l)) (omega (arith, e)) h g)

more_append : (ls : List Constraint) (l : Constraint) (ws : List ℤ) (n m : ℕ) → m ≡ n + length ls → HasMore (ls ++ l ∷ []) ws n → HasMore ls ws n ⊎ (pos 1 ≤ℤ get_or ws m (pos 0))
more_append [] l ws n m e (inl h) = inr (subst (λ i. pos 1 ≤ℤ get_or ws i (pos 0)) (omega (arith, e)) h.1)
more_append [] l ws n m e (inr h) = absurd h
more_append (k ∷ ks) l ws n m e (inl h) = inl (inl h)
more_append (k ∷ ks) l ws n m e (inr h) = elim (more_append ks l ws (suc n) m (omega (arith, e)) h) [ inl p ↦ inl (inr p) | inr q ↦ inr q ]

take_of : (s : Sense) (m : ℤ) → keeps true s ≡ false → MayWeigh (constraint_sense s) m → MayTake s m
take_of Zero m e h = tt
take_of AtLeast m e h = h
take_of More m e h = h
take_of Not m e h = absurd (true≢false e)

abbrev SaysMore : ConstraintSense → Type 0
SaysMore SenseZero = ⊥
SaysMore SenseAtLeast = ⊥
SaysMore SenseMore = Unit {0}

more_of : (s : Sense) → keeps true s ≡ false → constraint_sense s ≡ SenseMore → s ≡ More
more_of Zero e h = absurd (subst SaysMore (sym h) tt)
more_of AtLeast e h = absurd (subst SaysMore (sym h) tt)
more_of More e h = refl
more_of Not e h = absurd (true≢false e)

module _ (ts : List Term) (ws : List ℤ) (last : ℤ) where
  taken_none : (rows : List Row) (n : ℕ) → AllWeigh (named_constraints false ts rows) ws n → AreMultipliers rows (row_multipliers rows ws n zero last)
  taken_none [] n h = tt
  taken_none (r ∷ rs) n h = by (keeps true r.sense) refl (subst (λ v. AllWeigh v ws n) (main_cons ts r rs) h) (λ m p. taken_none rs m p)
    where
      by : (b : Bool) → keeps true r.sense ≡ b → AllWeigh (cond b (named_constraints false ts rs) (named_constraint ts r ∷ named_constraints false ts rs)) ws n
          → ((m : ℕ) → AllWeigh (named_constraints false ts rs) ws m → AreMultipliers rs (row_multipliers rs ws m zero last))
          → AreMultipliers (r ∷ rs) (cond b (pos 0 ∷ row_multipliers rs ws n zero last) (get_or ws n (pos 0) ∷ row_multipliers rs ws (suc n) zero last))
      by true e p ih = (subst (λ s. MayTake s (pos 0)) (sym (kept_not r.sense e)) refl, ih n p)
      by false e p ih = (take_of r.sense (get_or ws n (pos 0)) e p.0, ih (suc n) p.1)

  taken_one : (g : Summands → Summands) (rows : List Row) (k n : ℕ) → pos 0 ≤ℤ last → AllWeigh (named_constraints false ts rows) ws n → AreMultipliers (with_form g rows k) (row_multipliers rows ws n (suc k) last)
  taken_one g [] k n z h = tt
  taken_one g (r ∷ rs) zero n z h = by (keeps true r.sense) refl (subst (λ v. AllWeigh v ws n) (main_cons ts r rs) h) (λ m p. taken_one g rs zero m z p)
    where
      by : (b : Bool) → keeps true r.sense ≡ b → AllWeigh (cond b (named_constraints false ts rs) (named_constraint ts r ∷ named_constraints false ts rs)) ws n
          → ((m : ℕ) → AllWeigh (named_constraints false ts rs) ws m → AreMultipliers (with_form g rs zero) (row_multipliers rs ws m 1 last))
          → AreMultipliers (cond b (record { sense = More; form = g r.form } ∷ rs) (r ∷ with_form g rs zero)) (cond b (last ∷ row_multipliers rs ws n zero last) (get_or ws n (pos 0) ∷ row_multipliers rs ws (suc n) 1 last))
      by true e p ih = (z, taken_none rs n p)
      by false e p ih = (take_of r.sense (get_or ws n (pos 0)) e p.0, ih (suc n) p.1)
  taken_one g (r ∷ rs) (suc k) n z h =
      subst (λ e. AreMultipliers (with_form g (r ∷ rs) (suc k)) (cond (keeps true r.sense) (cond e last (pos 0) ∷ row_multipliers rs ws n (suc k) last) (get_or ws n (pos 0) ∷ row_multipliers rs ws (suc n) (suc (suc k)) last)))
      (sym (eqb_more k)) (by (keeps true r.sense) refl (subst (λ v. AllWeigh v ws n) (main_cons ts r rs) h) (λ m p. taken_one g rs k m z p) (λ m p. taken_one g rs (suc k) m z p))
    where
      by : (b : Bool) → keeps true r.sense ≡ b → AllWeigh (cond b (named_constraints false ts rs) (named_constraint ts r ∷ named_constraints false ts rs)) ws n
          → ((m : ℕ) → AllWeigh (named_constraints false ts rs) ws m → AreMultipliers (with_form g rs k) (row_multipliers rs ws m (suc k) last))
          → ((m : ℕ) → AllWeigh (named_constraints false ts rs) ws m → AreMultipliers (with_form g rs (suc k)) (row_multipliers rs ws m (suc (suc k)) last))
          → AreMultipliers (cond b (r ∷ with_form g rs k) (r ∷ with_form g rs (suc k))) (cond b (pos 0 ∷ row_multipliers rs ws n (suc k) last) (get_or ws n (pos 0) ∷ row_multipliers rs ws (suc n) (suc (suc k)) last))
      by true e p ih jh = (subst (λ s. MayTake s (pos 0)) (sym (kept_not r.sense e)) refl, ih n p)
      by false e p ih jh = (take_of r.sense (get_or ws n (pos 0)) e p.0, jh (suc n) p.1)

  more_none : (rows : List Row) (n : ℕ) → HasMore (named_constraints false ts rows) ws n → TakesMore rows (row_multipliers rows ws n zero last)
  more_none [] n h = h
  more_none (r ∷ rs) n h = by (keeps true r.sense) refl (subst (λ v. HasMore v ws n) (main_cons ts r rs) h) (λ m p. more_none rs m p)
    where
      by : (b : Bool) → keeps true r.sense ≡ b → HasMore (cond b (named_constraints false ts rs) (named_constraint ts r ∷ named_constraints false ts rs)) ws n
          → ((m : ℕ) → HasMore (named_constraints false ts rs) ws m → TakesMore rs (row_multipliers rs ws m zero last))
          → TakesMore (r ∷ rs) (cond b (pos 0 ∷ row_multipliers rs ws n zero last) (get_or ws n (pos 0) ∷ row_multipliers rs ws (suc n) zero last))
      by true e p ih = inr (ih n p)
      by false e (inl p) ih = inl (more_of r.sense e p.0, p.1)
      by false e (inr p) ih = inr (ih (suc n) p)

  more_one : (g : Summands → Summands) (rows : List Row) (k n : ℕ) → k < length (named_constraints true ts rows) → HasMore (named_constraints false ts rows) ws n ⊎ (pos 1 ≤ℤ last)
      → TakesMore (with_form g rows k) (row_multipliers rows ws n (suc k) last)
  more_one g [] k n l h = absurd (omega (arith, l))
  more_one g (r ∷ rs) zero n l h = by (keeps true r.sense) refl l (subst (λ v. HasMore v ws n ⊎ (pos 1 ≤ℤ last)) (main_cons ts r rs) h) (λ m q p. more_one g rs zero m q p)
    where
      by : (b : Bool) → keeps true r.sense ≡ b → 0 < length (cond b (named_constraint ts r ∷ named_constraints true ts rs) (named_constraints true ts rs))
          → HasMore (cond b (named_constraints false ts rs) (named_constraint ts r ∷ named_constraints false ts rs)) ws n ⊎ (pos 1 ≤ℤ last)
          → ((m : ℕ) → 0 < length (named_constraints true ts rs) → HasMore (named_constraints false ts rs) ws m ⊎ (pos 1 ≤ℤ last) → TakesMore (with_form g rs zero) (row_multipliers rs ws m 1 last))
          → TakesMore (cond b (record { sense = More; form = g r.form } ∷ rs) (r ∷ with_form g rs zero)) (cond b (last ∷ row_multipliers rs ws n zero last) (get_or ws n (pos 0) ∷ row_multipliers rs ws (suc n) 1 last))
      by true e q (inl p) ih = inr (more_none rs n p)
      by true e q (inr p) ih = inl (refl, p)
      by false e q (inl (inl p)) ih = inl (more_of r.sense e p.0, p.1)
      by false e q (inl (inr p)) ih = inr (ih (suc n) q (inl p))
      by false e q (inr p) ih = inr (ih (suc n) q (inr p))
  more_one g (r ∷ rs) (suc k) n l h =
      subst (λ e. TakesMore (with_form g (r ∷ rs) (suc k)) (cond (keeps true r.sense) (cond e last (pos 0) ∷ row_multipliers rs ws n (suc k) last) (get_or ws n (pos 0) ∷ row_multipliers rs ws (suc n) (suc (suc k)) last)))
      (sym (eqb_more k)) (by (keeps true r.sense) refl l (subst (λ v. HasMore v ws n ⊎ (pos 1 ≤ℤ last)) (main_cons ts r rs) h) (λ m q p. more_one g rs k m q p) (λ m q p. more_one g rs (suc k) m q p))
    where
      by : (b : Bool) → keeps true r.sense ≡ b → suc k < length (cond b (named_constraint ts r ∷ named_constraints true ts rs) (named_constraints true ts rs))
          → HasMore (cond b (named_constraints false ts rs) (named_constraint ts r ∷ named_constraints false ts rs)) ws n ⊎ (pos 1 ≤ℤ last)
          → ((m : ℕ) → k < length (named_constraints true ts rs) → HasMore (named_constraints false ts rs) ws m ⊎ (pos 1 ≤ℤ last) → TakesMore (with_form g rs k) (row_multipliers rs ws m (suc k) last))
          → ((m : ℕ) → suc k < length (named_constraints true ts rs) → HasMore (named_constraints false ts rs) ws m ⊎ (pos 1 ≤ℤ last) → TakesMore (with_form g rs (suc k)) (row_multipliers rs ws m (suc (suc k)) last))
          → TakesMore (cond b (r ∷ with_form g rs k) (r ∷ with_form g rs (suc k))) (cond b (pos 0 ∷ row_multipliers rs ws n (suc k) last) (get_or ws n (pos 0) ∷ row_multipliers rs ws (suc n) (suc (suc k)) last))
      by true e q p ih jh = inr (ih n (omega (arith, q)) p)
      by false e q (inl (inl p)) ih jh = inl (more_of r.sense e p.0, p.1)
      by false e q (inl (inr p)) ih jh = inr (jh (suc n) q (inl p))
      by false e q (inr p) ih jh = inr (jh (suc n) q (inr p))

-- ---- sizes

Sized : List ℤ → Type 0
Sized ms = (i : ℕ) → i < length ms → unsigned_abs (get_or ms i (pos 0)) ≤ 2 ^ 80

sized_cons : (m : ℤ) (ms : List ℤ) → unsigned_abs m ≤ 2 ^ 80 → ((i : ℕ) → i < length ms → unsigned_abs (get_or ms i (pos 0)) ≤ 2 ^ 80)
    → (i : ℕ) → i < length (m ∷ ms) → unsigned_abs (get_or (m ∷ ms) i (pos 0)) ≤ 2 ^ 80
sized_cons m ms h g zero l = h
sized_cons m ms h g (suc i) l = g i (omega (arith, l))

sized_row_multipliers : (rows : List Row) (ws : List ℤ) (n k : ℕ) (last : ℤ) → ((i : ℕ) → unsigned_abs (get_or ws i (pos 0)) ≤ 2 ^ 80) → unsigned_abs last ≤ 2 ^ 80
    → (i : ℕ) → i < length (row_multipliers rows ws n k last) → unsigned_abs (get_or (row_multipliers rows ws n k last) i (pos 0)) ≤ 2 ^ 80
sized_row_multipliers [] ws n k last h g i l = absurd (omega (arith, l))
sized_row_multipliers (r ∷ rs) ws n zero last h g i l = by (keeps true r.sense) (sized_row_multipliers rs ws n zero last h g) (sized_row_multipliers rs ws (suc n) zero last h g) i l
  where
    by : (b : Bool) → ((i : ℕ) → i < length (row_multipliers rs ws n zero last) → unsigned_abs (get_or (row_multipliers rs ws n zero last) i (pos 0)) ≤ 2 ^ 80) → ((i : ℕ) → i < length (row_multipliers rs ws (suc n) zero last) → unsigned_abs (get_or (row_multipliers rs ws (suc n) zero last) i (pos 0)) ≤ 2 ^ 80)
        → (i : ℕ) → i < length (cond b (pos 0 ∷ row_multipliers rs ws n zero last) (get_or ws n (pos 0) ∷ row_multipliers rs ws (suc n) zero last))
        → unsigned_abs (get_or (cond b (pos 0 ∷ row_multipliers rs ws n zero last) (get_or ws n (pos 0) ∷ row_multipliers rs ws (suc n) zero last)) i (pos 0)) ≤ 2 ^ 80
    by true p q = sized_cons (pos 0) (row_multipliers rs ws n zero last) (omega arith) p
    by false p q = sized_cons (get_or ws n (pos 0)) (row_multipliers rs ws (suc n) zero last) (h n) q
sized_row_multipliers (r ∷ rs) ws n (suc k) last h g i l = by (keeps true r.sense) (sized_row_multipliers rs ws n k last h g) (sized_row_multipliers rs ws (suc n) (suc k) last h g) i l
  where
    head : (b : Bool) → unsigned_abs (cond b last (pos 0)) ≤ 2 ^ 80
    head true = g
    head false = omega arith

    by : (b : Bool) → ((i : ℕ) → i < length (row_multipliers rs ws n k last) → unsigned_abs (get_or (row_multipliers rs ws n k last) i (pos 0)) ≤ 2 ^ 80) → ((i : ℕ) → i < length (row_multipliers rs ws (suc n) (suc k) last) → unsigned_abs (get_or (row_multipliers rs ws (suc n) (suc k) last) i (pos 0)) ≤ 2 ^ 80)
        → (i : ℕ) → i < length (cond b (cond (eqb k 0) last (pos 0) ∷ row_multipliers rs ws n k last) (get_or ws n (pos 0) ∷ row_multipliers rs ws (suc n) (suc k) last))
        → unsigned_abs (get_or (cond b (cond (eqb k 0) last (pos 0) ∷ row_multipliers rs ws n k last) (get_or ws n (pos 0) ∷ row_multipliers rs ws (suc n) (suc k) last)) i (pos 0)) ≤ 2 ^ 80
    by true p q = sized_cons (cond (eqb k 0) last (pos 0)) (row_multipliers rs ws n k last) (head (eqb k 0)) p
    by false p q = sized_cons (get_or ws n (pos 0)) (row_multipliers rs ws (suc n) (suc k) last) (h n) q

pub small_anywhere : (ws : List ℤ) → AllSmall ws → (i : ℕ) → unsigned_abs (get_or ws i (pos 0)) ≤ 2 ^ 80
small_anywhere [] h i = omega arith
small_anywhere (m ∷ ms) h zero = omega (arith, h 0 (omega arith))
small_anywhere (m ∷ ms) h (suc i) = small_anywhere ms (λ j l. h (suc j) (omega (arith, l))) i

-- ---- the multipliers refute the rows

coefficient_is : (ts : List Term) (form : Summands) (t : Term) → AreOnce ts → FormNamed ts form → coefficient form t ≡ form_at (named_form ts form) (suc (place_of ts t))
coefficient_is ts form t o h = elim (cases_lt (place_of ts t) (length ts)) [
  | inl l ↦ ap (coefficient form) (sym (term_at ts t l)) ∙ sym (form_column ts form (place_of ts t) o h l)
  | inr l ↦ absent_term ts form t h l ∙ sym (form_past ts form (place_of ts t) l h)
]

-- what the weights leave in each column
module _ (ts : List Term) (constraints : List Constraint) (ws : List ℤ) (within : AllFormsWithin (length ts + 1) constraints) (h : IsAbsurd (length ts + 1) constraints ws) (t : Term) where
  no_positive_at : weighed_at constraints ws (suc (place_of ts t)) ≤ℤ pos 0
  no_positive_at = elim (cases_lt (place_of ts t) (length ts)) [
    | inl l ↦ h.no_positive (suc (place_of ts t)) (omega arith) (omega (arith, l))
    | inr l ↦ omega (arith, sums, weighed_past constraints ws (length ts + 1) (suc (place_of ts t)) within (omega (arith, l)))
  ]

  small_sum_at : unsigned_abs (weighed_at constraints ws (suc (place_of ts t))) ≤ 2 ^ 80
  small_sum_at = elim (cases_lt (place_of ts t) (length ts)) [
    | inl l ↦ omega (arith, h.small_sums (suc (place_of ts t)) (omega arith) (omega (arith, l)))
    | inr l ↦ omega (arith, ap unsigned_abs (weighed_past constraints ws (length ts + 1) (suc (place_of ts t)) within (omega (arith, l))))
  ]

pub refutes_one : (ts : List Term) (rows : List Row) (ws : List ℤ) → AreOnce ts → AllNamed ts rows → IsAbsurd (length ts + 1) (named_constraints false ts rows) ws → Refutes rows (row_multipliers rows ws 0 0 (pos 0))
refutes_one ts rows ws o a h = record {
  taken = taken_none ts ws (pos 0) rows 0 (all_weigh (named_constraints false ts rows) ws 0 (λ i m d l e. subst (λ j. MayWeigh (get_or (named_constraints false ts rows) i d).sense (get_or ws j (pos 0))) (omega (arith, e)) (h.signs i d l)));
  more = more_none ts ws (pos 0) rows 0 (has_more (named_constraints false ts rows) ws 0 h.some_more.0 h.some_more.0 h.some_more.1 (omega arith) h.some_more.2 h.some_more.3);
  small = sized_row_multipliers rows ws 0 0 (pos 0) (small_anywhere ws h.small) (omega arith);
  no_positive = λ t. subst (λ z. z ≤ℤ pos 0) (sym (is t)) (no_positive_at ts (named_constraints false ts rows) ws (within_constraints false ts rows a) h t);
  small_sums = λ t. subst (λ z. unsigned_abs z ≤ 2 ^ 80) (sym (is t)) (small_sum_at ts (named_constraints false ts rows) ws (within_constraints false ts rows a) h t);
}
  where
    is : (t : Term) → total (each_weighed rows (row_multipliers rows ws 0 0 (pos 0))) t ≡ weighed_at (named_constraints false ts rows) ws (suc (place_of ts t))
    is t = total_none ts ws (pos 0) t (suc (place_of ts t)) (λ f n. coefficient_is ts f t o n) rows 0 a
        ∙ sym (weighed_is (named_constraints false ts rows) ws (suc (place_of ts t)) (omega (arith, h.shape)))

module _ (ts : List Term) (rows : List Row) (ws : List ℤ) (k : ℕ) (d l : Constraint) (m : ℕ) (g : Summands → Summands) (f : List Monomial → List Monomial)
    (o : AreOnce ts) (a : AllNamed ts rows) (here : k < length (named_constraints true ts rows)) (at : m ≡ length (named_constraints false ts rows)) (form : l.form ≡ f (get_or (named_constraints true ts rows) k d).form)
    (more : l.sense ≡ SenseMore) (within : FormWithin (length ts + 1) l.form) (turned : (t : Term) (s : Summands) → FormNamed ts s → coefficient (g s) t ≡ form_at (f (named_form ts s)) (suc (place_of ts t)))
    (h : IsAbsurd (length ts + 1) (named_constraints false ts rows ++ l ∷ []) ws) where
  last_of : ℤ
  last_of = get_or ws m (pos 0)

  all_within : AllFormsWithin (length ts + 1) (named_constraints false ts rows ++ l ∷ [])
  all_within = forms_push (length ts + 1) (named_constraints false ts rows) l (within_constraints false ts rows a) within

  all_signs : AllWeigh (named_constraints false ts rows) ws 0 × MayWeigh l.sense (get_or ws m (pos 0))
  all_signs = weigh_append (named_constraints false ts rows) l ws 0 m (omega (arith, at)) (all_weigh (named_constraints false ts rows ++ l ∷ []) ws 0
      (λ i j e n q. subst (λ v. MayWeigh (get_or (named_constraints false ts rows ++ l ∷ []) i e).sense (get_or ws v (pos 0))) (omega (arith, q)) (h.signs i e n)))

  sum_is : (t : Term) → total (each_weighed (with_form g rows k) (row_multipliers rows ws 0 (suc k) (get_or ws m (pos 0)))) t ≡ weighed_at (named_constraints false ts rows ++ l ∷ []) ws (suc (place_of ts t))
  sum_is t =
      total_one ts ws (get_or ws m (pos 0)) t (suc (place_of ts t)) (λ s n. coefficient_is ts s t o n) g f (turned t) rows k 0 d a here
      ∙ ap (λ v. constraints_total (named_constraints false ts rows) ws 0 (suc (place_of ts t)) +ℤ get_or ws m (pos 0) *ℤ form_at v (suc (place_of ts t))) (sym form)
      ∙ sym (total_push (named_constraints false ts rows) l ws 0 m (suc (place_of ts t)) (omega (arith, at)))
      ∙ sym (weighed_is (named_constraints false ts rows ++ l ∷ []) ws (suc (place_of ts t)) (omega (arith, h.shape)))

  refutes_form : Refutes (with_form g rows k) (row_multipliers rows ws 0 (suc k) (get_or ws m (pos 0)))
  refutes_form = record {
    taken = taken_one ts ws (get_or ws m (pos 0)) g rows k 0 (subst (λ v. MayWeigh v (get_or ws m (pos 0))) more all_signs.1) all_signs.0;
    more = more_one ts ws (get_or ws m (pos 0)) g rows k 0 here
        (more_append (named_constraints false ts rows) l ws 0 m (omega (arith, at))
        (has_more (named_constraints false ts rows ++ l ∷ []) ws 0 h.some_more.0 h.some_more.0 h.some_more.1 (omega arith) h.some_more.2 h.some_more.3));
    small = sized_row_multipliers rows ws 0 (suc k) (get_or ws m (pos 0)) (small_anywhere ws h.small) (small_anywhere ws h.small m);
    no_positive = λ t. subst (λ z. z ≤ℤ pos 0) (sym (sum_is t)) (no_positive_at ts (named_constraints false ts rows ++ l ∷ []) ws all_within h t);
    small_sums = λ t. subst (λ z. unsigned_abs z ≤ 2 ^ 80) (sym (sum_is t)) (small_sum_at ts (named_constraints false ts rows ++ l ∷ []) ws all_within h t);
  }

nots_are : (ts : List Term) (rows : List Row) → length (named_constraints true ts rows) ≡ count_nots rows
nots_are ts [] = refl
nots_are ts (r ∷ rs) = by (keeps true r.sense) (nots_are ts rs)
  where
    by : (b : Bool) → length (named_constraints true ts rs) ≡ count_nots rs → length (cond b (named_constraint ts r ∷ named_constraints true ts rs) (named_constraints true ts rs)) ≡ cond b (suc (count_nots rs)) (count_nots rs)
    by true e = ap suc e
    by false e = e

-- both signs of a row that says `not 0`
module _ (ts : List Term) (rows : List GivenRow) (k : ℕ) (above below : List ℤ) (o : AreOnce ts) (a : AllNamed ts (views_of_rows rows))
    (h : AreBothRefuted (length ts + 1) (named_constraints false ts (views_of_rows rows)) (named_constraints true ts (views_of_rows rows)) k above below) where
  pub some_constraint : Constraint
  some_constraint = record { sense = SenseMore; form = [] }

  pub is_below : k < count_nots (views_of_rows rows)
  is_below = omega (arith, h.here, nots_are ts (views_of_rows rows))

  pub above_long : length above ≡ length (named_constraints false ts (views_of_rows rows)) + 1
  above_long = (h.above_absurd some_constraint).shape ∙ length_push (named_constraints false ts (views_of_rows rows)) (get_or (named_constraints true ts (views_of_rows rows)) k some_constraint)

  pub below_long : length below ≡ length (named_constraints false ts (views_of_rows rows)) + 1
  below_long = (h.below_absurd some_constraint).shape ∙ length_push (named_constraints false ts (views_of_rows rows)) (negative_constraint (get_or (named_constraints true ts (views_of_rows rows)) k some_constraint))

  pub both_refute : (p m n : ℕ) (xs ys : List ℤ) → IsNotAt (views_of_rows rows) p → count_nots (views_of_rows (take p rows)) ≡ k → m + 1 ≡ length above → n + 1 ≡ length below
      → xs ≡ row_multipliers (views_of_rows rows) above 0 (k + 1) (get_or above m (pos 0)) → ys ≡ row_multipliers (views_of_rows rows) below 0 (k + 1) (get_or below n (pos 0)) → RefutesBoth (views_of_rows rows) p xs ys
  both_refute p m n xs ys i c e f u v = record {
    is_not = i;
    above_refutes = subst (Refutes (as_more (views_of_rows rows) p)) (sym (u ∙ ap (λ j. row_multipliers (views_of_rows rows) above 0 j (get_or above m (pos 0))) (omega arith)))
        (subst (λ rs. Refutes rs (row_multipliers (views_of_rows rows) above 0 (suc k) (get_or above m (pos 0)))) (sym (as_more_is rows p k i c))
        (refutes_form ts (views_of_rows rows) above k some_constraint (get_or (named_constraints true ts (views_of_rows rows)) k some_constraint) m (λ s. s) (λ s. s) o a h.here (omega (arith, e, above_long)) refl
        (more_constraints ts (views_of_rows rows) k some_constraint h.here) (within_constraints true ts (views_of_rows rows) a k some_constraint h.here) (λ t s q. coefficient_is ts s t o q) (h.above_absurd some_constraint)));
    below_refutes = subst (Refutes (as_less (views_of_rows rows) p)) (sym (v ∙ ap (λ j. row_multipliers (views_of_rows rows) below 0 j (get_or below n (pos 0))) (omega arith)))
        (subst (λ rs. Refutes rs (row_multipliers (views_of_rows rows) below 0 (suc k) (get_or below n (pos 0)))) (sym (as_less_is rows p k i c))
        (refutes_form ts (views_of_rows rows) below k some_constraint (negative_constraint (get_or (named_constraints true ts (views_of_rows rows)) k some_constraint)) n negative neg_form o a h.here (omega (arith, f, below_long)) refl
        refl (negative_within (length ts + 1) (get_or (named_constraints true ts (views_of_rows rows)) k some_constraint) (within_constraints true ts (views_of_rows rows) a k some_constraint h.here))
        (λ t s q. coefficient_negative s t ∙ ap neg_ℤ (coefficient_is ts s t o q) ∙ sym (negated_at (named_form ts s) (suc (place_of ts t)))) (h.below_absurd some_constraint)));
  }

-- ---- one answer where there is a solution, and another where there is none

pub length_seen : (rows : List GivenRow) → length (views_of_rows rows) ≡ length rows
length_seen [] = refl
length_seen (r ∷ rs) = ap suc (length_seen rs)

law_holds : (rows : List Row) (v : Verdict) → IsVerdict rows v → (IsWide rows → ⊥) → HasSolution rows → IsHolds v
law_holds rows (Absurd x) h n s = h.none s
law_holds rows (Holds x) h n s = tt
law_holds rows TooWide h n s = n h.0

law_absurd : (rows : List Row) (v : Verdict) → IsVerdict rows v → (IsWide rows → ⊥) → (HasSolution rows → ⊥) → IsAbsurdVerdict v
law_absurd rows (Absurd x) h n s = tt
law_absurd rows (Holds x) h n s = s (record { values = assigned_value x; satisfy = h.satisfy })
law_absurd rows TooWide h n s = n h.0

pub each_law_holds : {E : Type 0} (rows : List Row) (r : Result Verdict E) → IfOk r (IsVerdict rows) → IfOk r (λ v. (IsWide rows → ⊥) → HasSolution rows → IsHolds v)
each_law_holds rows (Ok v) h = law_holds rows v h
each_law_holds rows (Err e) h = tt

pub each_law_absurd : {E : Type 0} (rows : List Row) (r : Result Verdict E) → IfOk r (IsVerdict rows) → IfOk r (λ v. (IsWide rows → ⊥) → (HasSolution rows → ⊥) → IsAbsurdVerdict v)
each_law_absurd rows (Ok v) h = law_absurd rows v h
each_law_absurd rows (Err e) h = tt

-- what is said of the constraints and columns of a solved table
pub solved_further : (s : Table) (w : ℕ) (constraints forms fs : List Constraint) → IsSolved w constraints s → fs ≡ forms → AreFurther w constraints forms → AreFurther (columns_of s) (constraints_of s) fs
solved_further s w constraints forms fs h e f =
    subst (λ v. AreFurther v (constraints_of s) fs) (sym h.table.columns_many) (subst (λ v. AreFurther w v fs) (sym h.constraints_are) (subst (AreFurther w constraints) (sym e) f))

pub solved_wide : (s : Table) (w : ℕ) (constraints forms fs : List Constraint) → IsSolved w constraints s → fs ≡ forms → WideWithSome (columns_of s) (constraints_of s) fs → WideWithSome w constraints forms
solved_wide s w constraints forms fs h e f =
    subst (WideWithSome w constraints) e (subst (λ v. WideWithSome w v fs) h.constraints_are (subst (λ v. WideWithSome v (constraints_of s) fs) h.table.columns_many f))

pub solved_unequal : (s : Table) (w : ℕ) (constraints forms fs : List Constraint) (values : List ℤ) → IsSolved w constraints s → fs ≡ forms → AreUnequal (columns_of s) (constraints_of s) fs values → AreUnequal w constraints forms values
solved_unequal s w constraints forms fs values h e f =
    subst (λ v. AreUnequal w constraints v values) e (subst (λ v. AreUnequal w v fs values) h.constraints_are (subst (λ v. AreUnequal v (constraints_of s) fs values) h.table.columns_many f))

pub solved_both_refuted : (s : Table) (w : ℕ) (constraints forms fs : List Constraint) (k : ℕ) (above below : List ℤ) → IsSolved w constraints s → fs ≡ forms
    → AreBothRefuted (columns_of s) (constraints_of s) fs k above below → AreBothRefuted w constraints forms k above below
solved_both_refuted s w constraints forms fs k above below h e f =
    subst (λ v. AreBothRefuted w constraints v k above below) e
    (subst (λ v. AreBothRefuted w v fs k above below) h.constraints_are (subst (λ v. AreBothRefuted v (constraints_of s) fs k above below) h.table.columns_many f))
