-- Constraints of rows over terms: what they have in each column, and their values.
use Rattle.std.proofs.Common.{◌≡◌, ◌≢◌, ℕ, zero, suc, ◌+◌, ◌<◌, ◌≤◌, ◌^◌, List, [], ◌∷◌, refl, ap, ap₂, arith, sym, ◌∙◌, subst, length, get_or, cond, Bool, true, false, true≢false, inl, inr, leb-true}
use Rattle.std.specs.Prelude.{unsigned_abs, neg_ℤ, nat_le}
use Rattle.std.proofs.lemmas.Bool.{cases_lt, cases_Bool}
use lib.IntN.{ℤ, pos, ◌+ℤ◌, ◌*ℤ◌, *ℤ-zero, *ℤ_comm}
use Rattle.e_literal.specs.declared.object.Term.{Term}
use Rattle.e_literal.specs.declared.object.Term.TheVariants.{Right}
use Rattle.e_literal.specs.Same.{term_eq}
use Rattle.e_literal.specs.Rows.{Row, Sense, Zero, AtLeast, More, Not, Summands, coefficient}
use Rattle.e_literal.specs.Minor.{entry, constant}
use Rattle.e_fraction.specs.Tableau.{unit}
use Rattle.e_fraction.specs.Limits.{has_small_coefficients}
use Rattle.e_fraction.specs.Distinct.{have_distinct_terms}
use Rattle.e_simplex.specs.declared.constraints.Monomial.{Monomial}
use Rattle.e_simplex.specs.declared.constraints.Constraint.{Constraint}
use Rattle.e_simplex.specs.Constraints.{form_at, constraint_row, constant_of, IsSmallConstraint, FormWithin, AllSmallConstraints, AllFormsWithin}
use Rattle.e_simplex.specs.Solved.{IsFit}
use Rattle.e_simplex.specs.inner.Disequalities.{AreFurther}
use Rattle.e_simplex.specs.inner.Tried.{negative_constraint}
use Rattle.e_simplex.specs.declared.constraints.ConstraintSense.TheVariants.{More as SenseMore}
use Rattle.e_simplex.proofs.columns.Negatives.{small_push, negated_at}
use Rattle.e_simplex.proofs.outcomes.Deciding.{forms_push}
use Rattle.std.proofs.lemmas.List.{length_push}
use Rattle.e_simplex.specs.Naming.{place_of, IsIn, AreOnce, FormNamed, AllNamed, named_form, named_constraint, named_constraints, constraint_sense, keeps}
use Rattle.e_literal.proofs.Arith.{sums, one_mul}
use Rattle.e_fraction.proofs.Minors.{unit-same, unit-other}
use Rattle.e_literal.proofs.Terms.{term_eq_is, equal_terms}
use Rattle.e_literal.proofs.Booleans.{and_left, and_right}
use Rattle.e_fraction.proofs.Sums.{small_coefficient}
use Rattle.e_fraction.proofs.Numbering.{column}
use Rattle.e_simplex.proofs.columns.Places.{term_at}

-- ---- columns

unit_term : (ts : List Term) (t : Term) (c : ℕ) → AreOnce ts → IsIn ts t → c < length ts → unit (suc (place_of ts t)) (suc c) ≡ cond (term_eq t (get_or ts c Right)) (pos 1) (pos 0)
unit_term ts t c o h l = elim (cases_Bool (term_eq t (get_or ts c Right))) [
  | inl e ↦ ap (λ n. unit (suc n) (suc c)) (ap (place_of ts) (term_eq_is t (get_or ts c Right) e) ∙ o c l) ∙ unit-same (suc c) ∙ sym (ap (λ b. cond b (pos 1) (pos 0)) e)
  | inr n ↦ unit-other (suc (place_of ts t)) (suc c)
      (λ q. true≢false (sym (equal_terms t (get_or ts c Right) (sym (term_at ts t h) ∙ ap (λ i. get_or ts i Right) (omega (arith, q)))) ∙ n))
      ∙ sym (ap (λ b. cond b (pos 1) (pos 0)) n)
]

times_bool : (a : ℤ) (b : Bool) → a *ℤ cond b (pos 1) (pos 0) ≡ cond b a (pos 0)
times_bool a true = *ℤ_comm a (pos 1) ∙ one_mul a
times_bool a false = *ℤ-zero a

-- a form has, in the column of a term, the term's coefficient
pub form_column : (ts : List Term) (form : Summands) (c : ℕ) → AreOnce ts → FormNamed ts form → c < length ts → form_at (named_form ts form) (suc c) ≡ coefficient form (get_or ts c Right)
form_column ts [] c o h l = refl
form_column ts (p ∷ ps) c o h l =
    ap₂ {A = ℤ} {B = ℤ} (λ u v. u +ℤ v) (ap (λ v. p.0 *ℤ v) (unit_term ts p.1 c o h.0 l) ∙ times_bool p.0 (term_eq p.1 (get_or ts c Right))) (form_column ts ps c o h.1 l)

-- and nothing in a column that is that of none
form_nothing : (ts : List Term) (form : Summands) (c : ℕ) → ((t : Term) → IsIn ts t → suc (place_of ts t) ≢ c) → FormNamed ts form → form_at (named_form ts form) c ≡ pos 0
form_nothing ts [] c n h = refl
form_nothing ts (p ∷ ps) c n h =
    omega (arith, sums, ap (λ v. p.0 *ℤ v) (unit-other (suc (place_of ts p.1)) c (n p.1 h.0)), *ℤ-zero p.0, form_nothing ts ps c n h.1)

pub form_constant : (ts : List Term) (form : Summands) → FormNamed ts form → form_at (named_form ts form) 0 ≡ pos 0
form_constant ts form h = form_nothing ts form 0 (λ t i. omega arith) h

pub form_past : (ts : List Term) (form : Summands) (c : ℕ) → length ts ≤ c → FormNamed ts form → form_at (named_form ts form) (suc c) ≡ pos 0
form_past ts form c l h = form_nothing ts form (suc c) (λ t i q. omega (arith, i, q, l)) h

-- a coefficient of a term that is in no column is 0
pub absent_term : (ts : List Term) (form : Summands) (t : Term) → FormNamed ts form → length ts ≤ place_of ts t → coefficient form t ≡ pos 0
absent_term ts [] t h l = refl
absent_term ts (p ∷ ps) t h l = elim (cases_Bool (term_eq p.1 t)) [
  | inl e ↦ absurd (omega (arith, h.0, ap (place_of ts) (term_eq_is p.1 t e), l))
  | inr n ↦ omega (arith, sums, ap (λ b. cond b p.0 (pos 0)) n, absent_term ts ps t h.1 l)
]

-- ---- sizes

length-named : (ts : List Term) (form : Summands) → length (named_form ts form) ≡ length form
length-named ts [] = refl
length-named ts (p ∷ ps) = ap suc (length-named ts ps)

small_named : (ts : List Term) (form : Summands) (k : ℕ) (d : Monomial) → has_small_coefficients form ≡ true → k < length (named_form ts form)
    → unsigned_abs (get_or (named_form ts form) k d).coefficient ≤ 2 ^ 30
small_named ts [] k d h l = absurd (omega (arith, l))
small_named ts (p ∷ ps) zero d h l = leb-true (unsigned_abs p.0) (2 ^ 30) (and_left (nat_le (unsigned_abs p.0) (2 ^ 30)) (has_small_coefficients ps) h)
small_named ts (p ∷ ps) (suc k) d h l =
    small_named ts ps k d (and_right (nat_le (unsigned_abs p.0) (2 ^ 30)) (has_small_coefficients ps) h) (omega (arith, l))

pub within_named : (ts : List Term) (form : Summands) → FormNamed ts form → FormWithin (length ts + 1) (named_form ts form)
within_named ts [] h k d l = absurd (omega (arith, l))
within_named ts (p ∷ ps) h zero d l = (omega arith, omega (arith, h.0))
within_named ts (p ∷ ps) h (suc k) d l = within_named ts ps h.1 k d (omega (arith, l))

pub small_constraint : (ts : List Term) (r : Row) → AreOnce ts → FormNamed ts r.form → has_small_coefficients r.form ≡ true → have_distinct_terms r.form ≡ true → length r.form ≤ 2 ^ 32
    → IsSmallConstraint (named_constraint ts r)
small_constraint ts r o h s d n = record {
  small = λ k e l. small_named ts r.form k e s l;
  short = omega (arith, n, length-named ts r.form);
  sums = by;
}
  where
    by : (c : ℕ) → unsigned_abs (form_at (named_form ts r.form) c) ≤ 2 ^ 30
    by zero = subst (λ z. unsigned_abs z ≤ 2 ^ 30) (sym (form_constant ts r.form h)) (omega arith)
    by (suc c) = elim (cases_lt c (length ts)) [
      | inl l ↦ subst (λ z. unsigned_abs z ≤ 2 ^ 30) (sym (form_column ts r.form c o h l)) (small_coefficient r.form (get_or ts c Right) s d)
      | inr g ↦ subst (λ z. unsigned_abs z ≤ 2 ^ 30) (sym (form_past ts r.form c g h)) (omega arith)
    ]

-- ---- entries

constant_same : (s : Sense) → constant_of (constraint_sense s) ≡ constant s false
constant_same Zero = refl
constant_same AtLeast = refl
constant_same More = refl
constant_same Not = refl

-- the row of a constraint has the entries of its row, whose constant is taken as 1
pub constraint_entry : (ts : List Term) (r : Row) (c : ℕ) → AreOnce ts → FormNamed ts r.form → c < length ts + 1
    → constraint_row (named_constraint ts r) c ≡ entry (record { row = r; down = false }) (column ts c)
constraint_entry ts r zero o h l =
    omega (arith, sums, form_constant ts r.form h, constant_same r.sense, *ℤ_comm (constant_of (constraint_sense r.sense)) (pos 1), one_mul (constant_of (constraint_sense r.sense)), ap (λ v. constant_of (constraint_sense r.sense) *ℤ v) (unit-same 0))
constraint_entry ts r (suc c) o h l =
    omega (arith, sums, form_column ts r.form c o h (omega (arith, l)), ap (λ v. constant_of (constraint_sense r.sense) *ℤ v) (unit-other 0 (suc c) (λ q. omega (arith, q))), *ℤ-zero (constant_of (constraint_sense r.sense)))

-- the same for the constraint that says that the form is less than 0, turned round, whose constant is -1
pub negative_entry : (ts : List Term) (r : Row) (c : ℕ) → r.sense ≡ Not → AreOnce ts → FormNamed ts r.form → c < length ts + 1
    → neg_ℤ (constraint_row (negative_constraint (named_constraint ts r)) c) ≡ entry (record { row = r; down = true }) (column ts c)
negative_entry ts r zero e o h l =
    omega (arith, sums, negated_at (named_form ts r.form) 0, form_constant ts r.form h, ap (λ v. pos 1 *ℤ v) (unit-same 0), one_mul (pos 1), ap (λ s. constant s true) e)
negative_entry ts r (suc c) e o h l =
    omega (arith, sums, negated_at (named_form ts r.form) (suc c), form_column ts r.form c o h (omega (arith, l)), ap (λ v. pos 1 *ℤ v) (unit-other 0 (suc c) (λ q. omega (arith, q))), *ℤ-zero (pos 1))

-- ---- constraints as the decision takes them

within_cond : (k : Bool) (w : ℕ) (l : Constraint) (ls : List Constraint) → FormWithin w l.form → AllFormsWithin w ls → AllFormsWithin w (cond k (l ∷ ls) ls)
within_cond true w l ls h g zero d n = h
within_cond true w l ls h g (suc i) d n = g i d (omega (arith, n))
within_cond false w l ls h g i d n = g i d n

pub within_constraints : (b : Bool) (ts : List Term) (rows : List Row) → AllNamed ts rows → AllFormsWithin (length ts + 1) (named_constraints b ts rows)
within_constraints b ts [] h i d n = absurd (omega (arith, n))
within_constraints b ts (r ∷ rs) h i d n = within_cond (keeps b r.sense) (length ts + 1) (named_constraint ts r) (named_constraints b ts rs) (within_named ts r.form h.0) (within_constraints b ts rs h.1) i d n

count_cond : (k : Bool) (l : Constraint) (ls : List Constraint) (n : ℕ) → length ls ≤ n → length (cond k (l ∷ ls) ls) ≤ n + 1
count_cond true l ls n h = omega (arith, h)
count_cond false l ls n h = omega (arith, h)

pub count_constraints : (b : Bool) (ts : List Term) (rows : List Row) → length (named_constraints b ts rows) ≤ length rows
count_constraints b ts [] = omega arith
count_constraints b ts (r ∷ rs) = omega (arith, count_cond (keeps b r.sense) (named_constraint ts r) (named_constraints b ts rs) (length rs) (count_constraints b ts rs))

more_cond : (k : Bool) (l : Constraint) (ls : List Constraint) → (k ≡ true → l.sense ≡ SenseMore) → ((i : ℕ) (d : Constraint) → i < length ls → (get_or ls i d).sense ≡ SenseMore)
    → (i : ℕ) (d : Constraint) → i < length (cond k (l ∷ ls) ls) → (get_or (cond k (l ∷ ls) ls) i d).sense ≡ SenseMore
more_cond true l ls h g zero d n = h refl
more_cond true l ls h g (suc i) d n = g i d (omega (arith, n))
more_cond false l ls h g i d n = g i d n

pub kept_not : (s : Sense) → keeps true s ≡ true → s ≡ Not
kept_not Zero h = absurd (true≢false (sym h))
kept_not AtLeast h = absurd (true≢false (sym h))
kept_not More h = absurd (true≢false (sym h))
kept_not Not h = refl

pub more_constraints : (ts : List Term) (rows : List Row) (i : ℕ) (d : Constraint) → i < length (named_constraints true ts rows) → (get_or (named_constraints true ts rows) i d).sense ≡ SenseMore
more_constraints ts [] i d n = absurd (omega (arith, n))
more_constraints ts (r ∷ rs) i d n = more_cond (keeps true r.sense) (named_constraint ts r) (named_constraints true ts rs) (λ e. ap constraint_sense (kept_not r.sense e)) (more_constraints ts rs) i d n

-- a form over some columns is one over more
forms_wider : (n w : ℕ) (constraints : List Constraint) → n ≤ w → AllFormsWithin n constraints → AllFormsWithin w constraints
forms_wider n w constraints l h k d i j e m = let g = h k d i j e m in (g.0, omega (arith, g.1, l))

-- w columns, more than the terms
pub fit_constraints : (ts : List Term) (rows : List Row) (w : ℕ) → length ts < w → w ≤ 2 ^ 63 + 8 → length rows ≤ 4096 → AllNamed ts rows → AllSmallConstraints (named_constraints false ts rows)
    → IsFit w (named_constraints false ts rows)
fit_constraints ts rows w r n m h s = record {
  small = s;
  within = forms_wider (length ts + 1) w (named_constraints false ts rows) (omega (arith, r)) (within_constraints false ts rows h);
  some = omega (arith, r);
  counted = omega (arith, n, m, count_constraints false ts rows);
  few = omega (arith, m, count_constraints false ts rows);
}

pub further_constraints : (ts : List Term) (rows : List Row) (w : ℕ) → length ts < w → w ≤ 2 ^ 63 + 8 → length rows ≤ 4096 → AllNamed ts rows → AllSmallConstraints (named_constraints false ts rows)
    → AllSmallConstraints (named_constraints true ts rows) → AreFurther w (named_constraints false ts rows) (named_constraints true ts rows)
further_constraints ts rows w r n m h s g = record {
  more = more_constraints ts rows;
  fit = λ k d l. record {
    small = small_push (named_constraints false ts rows) (get_or (named_constraints true ts rows) k d) s (g k d l);
    within = forms_push w (named_constraints false ts rows) (get_or (named_constraints true ts rows) k d) main (nots k d l);
    some = omega (arith, r);
    counted = omega (arith, n, m, count_constraints false ts rows, length_push (named_constraints false ts rows) (get_or (named_constraints true ts rows) k d));
    few = omega (arith, m, count_constraints false ts rows, length_push (named_constraints false ts rows) (get_or (named_constraints true ts rows) k d));
  };
  small = g;
  within = nots;
  few = omega (arith, m, count_constraints true ts rows);
}
  where
    main : AllFormsWithin w (named_constraints false ts rows)
    main = forms_wider (length ts + 1) w (named_constraints false ts rows) (omega (arith, r)) (within_constraints false ts rows h)

    nots : AllFormsWithin w (named_constraints true ts rows)
    nots = forms_wider (length ts + 1) w (named_constraints true ts rows) (omega (arith, r)) (within_constraints true ts rows h)

-- a constraint is small if its form is that of a small constraint
pub small_like : (l m : Constraint) → l.form ≡ m.form → IsSmallConstraint m → IsSmallConstraint l
small_like l m e h = record {
  small = λ k d n. subst (λ v. unsigned_abs (get_or v k d).coefficient ≤ 2 ^ 30) (sym e) (h.small k d (omega (arith, n, ap length e)));
  short = omega (arith, h.short, ap length e);
  sums = λ c. subst (λ v. unsigned_abs (form_at v c) ≤ 2 ^ 30) (sym e) (h.sums c);
}
