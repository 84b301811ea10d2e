-- Negated forms, and the first constraints of a longer list.
use Rattle.std.proofs.Common.{◌≡◌, ℕ, zero, suc, ◌+◌, ◌^◌, ◌<◌, List, [], ◌∷◌, ◌++◌, refl, ap, ap₂, arith, sym, ◌∙◌, subst, length, get_or, take, inl, inr}
use Rattle.std.specs.Prelude.{unsigned_abs}
use Rattle.std.proofs.lemmas.List.{take_more, get_or_append_left, get_or_push, length_push}
use lib.IntN.{ℤ, pos, neg_ℤ}
use Rattle.e_simplex.specs.declared.constraints.Monomial.{Monomial}
use Rattle.e_simplex.specs.declared.constraints.Constraint.{Constraint}
use Rattle.e_simplex.specs.declared.constraints.ConstraintSense.{ConstraintSense}
use Rattle.e_simplex.specs.declared.constraints.ConstraintSense.TheVariants.{More}
use Rattle.e_simplex.specs.declared.table.Table.{Table}
use Rattle.e_fraction.specs.Tableau.{unit}
use Rattle.e_simplex.specs.Entries.{AllSmall}
use Rattle.e_simplex.specs.Constraints.{form_at, value_of_monomials, FormWithin, IsSmallConstraint, AllSmallConstraints, AllFormsWithin, IsSolution, ConstraintHolds}
use Rattle.e_simplex.specs.Solved.{IsSolved, IsFit, columns_of, constraints_of, AreBelow, WideFurther}
use Rattle.e_simplex.specs.inner.Tried.{neg_form, negative_constraint, AreFoundValues}
use Rattle.e_literal.proofs.Arith.{sums, neg_mul, size_negative}
use Rattle.e_simplex.proofs.outcomes.Deciding.{forms_push}

negated_push : (xs : List Monomial) (x : Monomial) → neg_form (xs ++ x ∷ []) ≡ neg_form xs ++ record { coefficient = neg_ℤ x.coefficient; column = x.column } ∷ []
negated_push [] x = refl
negated_push (y ∷ ys) x = ap (λ v. record { coefficient = neg_ℤ y.coefficient; column = y.column } ∷ v) (negated_push ys x)

one_monomial : (r x : Monomial) → r.coefficient ≡ neg_ℤ x.coefficient → r.column ≡ x.column → r ≡ record { coefficient = neg_ℤ x.coefficient; column = x.column }
one_monomial r x e f = ap₂ {A = ℤ} {B = ℕ} (λ a b. let m : Monomial = record { coefficient = a; column = b } in m) e f

pub negated_more : (xs : List Monomial) (i : ℕ) (d r : Monomial) (old new : List Monomial) → i < length xs → old ≡ neg_form (take i xs) → new ≡ old ++ r ∷ []
    → r.coefficient ≡ neg_ℤ (get_or xs i d).coefficient → r.column ≡ (get_or xs i d).column → new ≡ neg_form (take (i + 1) xs)
negated_more xs i d r old new l e n a b =
    n ∙ ap₂ (λ u v. u ++ v ∷ []) e (one_monomial r (get_or xs i d) a b) ∙ sym (negated_push (take i xs) (get_or xs i d)) ∙ ap neg_form (sym (take_more xs i d l))

length-negated : (xs : List Monomial) → length (neg_form xs) ≡ length xs
length-negated [] = refl
length-negated (x ∷ xs) = ap suc (length-negated xs)

get_or-negated : (xs : List Monomial) (k : ℕ) (d : Monomial) → k < length xs
    → get_or (neg_form xs) k d ≡ record { coefficient = neg_ℤ (get_or xs k d).coefficient; column = (get_or xs k d).column }
get_or-negated [] k d l = absurd (omega (arith, l))
get_or-negated (x ∷ xs) zero d l = refl
get_or-negated (x ∷ xs) (suc k) d l = get_or-negated xs k d (omega (arith, l))

pub negated_value : (xs : List Monomial) (values : List ℤ) → value_of_monomials (neg_form xs) values ≡ neg_ℤ (value_of_monomials xs values)
negated_value [] values = refl
negated_value (x ∷ xs) values = omega (arith, sums, neg_mul x.coefficient (get_or values x.column (pos 0)), negated_value xs values)

pub negated_at : (xs : List Monomial) (c : ℕ) → form_at (neg_form xs) c ≡ neg_ℤ (form_at xs c)
negated_at [] c = refl
negated_at (x ∷ xs) c = omega (arith, sums, neg_mul x.coefficient (unit x.column c), negated_at xs c)

pub negative_small : (l : Constraint) → IsSmallConstraint l → IsSmallConstraint (negative_constraint l)
negative_small l h = record {
  small = λ k d m. (let n : k < length l.form = omega (arith, m, length-negated l.form) in
      omega (arith, ap (λ x. unsigned_abs x.coefficient) (get_or-negated l.form k d n), size_negative (get_or l.form k d).coefficient, h.small k d n));
  short = omega (arith, length-negated l.form, h.short);
  sums = λ c. omega (arith, ap unsigned_abs (negated_at l.form c), size_negative (form_at l.form c), h.sums c);
}

pub negative_within : (w : ℕ) (l : Constraint) → FormWithin w l.form → FormWithin w (neg_form l.form)
negative_within w l h k d m =
    (let n : k < length l.form = omega (arith, m, length-negated l.form) in
    (omega (arith, ap (λ x. x.column) (get_or-negated l.form k d n), (h k d n).0), omega (arith, ap (λ x. x.column) (get_or-negated l.form k d n), (h k d n).1)))

pub small_push : (constraints : List Constraint) (l : Constraint) → AllSmallConstraints constraints → IsSmallConstraint l → AllSmallConstraints (constraints ++ l ∷ [])
small_push [] l h g zero d n = g
small_push [] l h g (suc k) d n = absurd (omega (arith, n))
small_push (x ∷ xs) l h g zero d n = h 0 x (omega arith)
small_push (x ∷ xs) l h g (suc k) d n = small_push xs l (λ i y m. h (suc i) y (omega (arith, m))) g k d (omega (arith, n))

-- the last of fit constraints
pub last_constraint : (w : ℕ) (constraints : List Constraint) (l : Constraint) → IsFit w (constraints ++ l ∷ []) → IsSmallConstraint l × FormWithin w l.form
last_constraint w constraints l h =
    (let n : length constraints < length (constraints ++ l ∷ []) = omega (arith, length_push constraints l) in
    let e : get_or (constraints ++ l ∷ []) (length constraints) l ≡ l = get_or_push constraints l l (length constraints) refl in
    (subst IsSmallConstraint e (h.small (length constraints) l n), subst (λ x. FormWithin w x.form) e (h.within (length constraints) l n)))

-- fit constraints with another last constraint
pub fit_other : (w : ℕ) (constraints : List Constraint) (l m : Constraint) → AllSmallConstraints constraints → AllFormsWithin w constraints → IsFit w (constraints ++ l ∷ []) → IsSmallConstraint m → FormWithin w m.form → IsFit w (constraints ++ m ∷ [])
fit_other w constraints l m small within h a b = record {
  small = small_push constraints m small a;
  within = forms_push w constraints m within b;
  some = h.some;
  counted = omega (arith, h.counted, length_push constraints l, length_push constraints m);
  few = omega (arith, h.few, length_push constraints l, length_push constraints m);
}

-- a solved table of these constraints is one of its own constraints
pub own_solved : (w : ℕ) (constraints : List Constraint) (s : Table) → IsSolved w constraints s → IsSolved (columns_of s) (constraints_of s) s
own_solved w constraints s h =
    subst (λ v. IsSolved v (constraints_of s) s) (sym h.table.columns_many) (subst (λ v. IsSolved w v s) (sym h.constraints_are) h)

first_constraints : (w : ℕ) (constraints : List Constraint) (l : Constraint) (values : List ℤ) → IsSolution w (constraints ++ l ∷ []) values → IsSolution w constraints values
first_constraints w constraints l values h = record {
  shape = h.shape;
  not_negative = h.not_negative;
  holds = λ i d n. subst (λ x. ConstraintHolds x.sense (value_of_monomials x.form values)) (get_or_append_left constraints (l ∷ []) d i n) (h.holds i d (omega (arith, n, length_push constraints l)));
}

last_holds : (w : ℕ) (constraints : List Constraint) (l : Constraint) (values : List ℤ) → l.sense ≡ More → IsSolution w (constraints ++ l ∷ []) values → ConstraintHolds More (value_of_monomials l.form values)
last_holds w constraints l values k h =
    subst (λ x. ConstraintHolds x (value_of_monomials l.form values)) k
    (subst (λ x. ConstraintHolds x.sense (value_of_monomials x.form values)) (get_or_push constraints l l (length constraints) refl) (h.holds (length constraints) l (omega (arith, length_push constraints l))))

last_below : (constraints : List Constraint) (l : Constraint) (values : List ℤ) → AreBelow (2 ^ 64) (constraints ++ l ∷ []) values → unsigned_abs (value_of_monomials l.form values) < 2 ^ 64
last_below constraints l values h = subst (λ x. unsigned_abs (value_of_monomials x.form values) < 2 ^ 64) (get_or_push constraints l l (length constraints) refl) (h (length constraints) l (omega (arith, length_push constraints l)))

-- values of the table of the constraints and one more, which says more
module _ (w : ℕ) (constraints : List Constraint) (l : Constraint) (s : Table) (values : List ℤ) (more : l.sense ≡ More) (h : IsSolved w (constraints ++ l ∷ []) s)
    (a : IsSolution (columns_of s) (constraints_of s) values) (b : AllSmall values) (c : AreBelow (2 ^ 64) (constraints_of s) values) (f : WideFurther (columns_of s) (constraints_of s) values) where
  a2 : IsSolution w (constraints ++ l ∷ []) values
  a2 = subst (λ v. IsSolution v (constraints ++ l ∷ []) values) h.table.columns_many (subst (λ v. IsSolution (columns_of s) v values) h.constraints_are a)

  c2 : AreBelow (2 ^ 64) (constraints ++ l ∷ []) values
  c2 = subst (λ v. AreBelow (2 ^ 64) v values) h.constraints_are c

  f2 : WideFurther w (constraints ++ l ∷ []) values
  f2 = subst (λ v. WideFurther v (constraints ++ l ∷ []) values) h.table.columns_many (subst (λ v. WideFurther (columns_of s) v values) h.constraints_are f)

  pub found_above : AreFoundValues w constraints l values
  found_above = record {
    solution = first_constraints w constraints l values a2;
    small = b;
    unequal = λ z. omega (arith, sums, z, last_holds w constraints l values more a2);
    below = last_below constraints l values c2;
    further = inl f2;
  }

  pub found_below : (k : Constraint) → l ≡ negative_constraint k → AreFoundValues w constraints k values
  found_below k e = record {
    solution = first_constraints w constraints l values a2;
    small = b;
    unequal = λ z. omega (arith, sums, z, turned, last_holds w constraints l values more a2);
    below = omega (arith, ap unsigned_abs turned, size_negative (value_of_monomials k.form values), last_below constraints l values c2);
    further = inr (subst (λ v. WideFurther w (constraints ++ v ∷ []) values) e f2);
  }
    where
      turned : value_of_monomials l.form values ≡ neg_ℤ (value_of_monomials k.form values)
      turned = ap (λ v. value_of_monomials v.form values) e ∙ negated_value k.form values

pub one_constraint : (l k : Constraint) → l.sense ≡ More → l.form ≡ neg_form k.form → l ≡ negative_constraint k
one_constraint l k e f = ap₂ {A = ConstraintSense} {B = List Monomial} (λ a b. let m : Constraint = record { sense = a; form = b } in m) e f
