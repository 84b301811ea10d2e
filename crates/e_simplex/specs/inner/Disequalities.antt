-- What the loop over the forms that are not to be 0 takes, and what comes of it.
use Rattle.std.specs.Prelude.{◌≡◌, ◌≢◌, ◌⊎◌, ℕ, ◌+◌, ◌^◌, ◌<◌, ◌≤◌, ◌++◌, ◌∷◌, [], ℤ, pos, List}
use Rattle.std.specs.Prelude.{length, get_or, unsigned_abs}
use Rattle.e_fraction.specs.Det.{HasWideMinor}
use Rattle.e_fraction.specs.Limits.{most_rows_of_system}
use Rattle.e_simplex.specs.Constraints.{rows_of, value_of_monomials, IsSolution, IsAbsurd}
use Rattle.e_simplex.specs.Constraints.{AllSmallConstraints, AllFormsWithin}
use Rattle.e_simplex.specs.inner.Multiple.{NoneIsZero, AddedTo}
use Rattle.e_simplex.specs.Solved.{IsFit}
use Rattle.e_simplex.specs.inner.Tried.{negative_constraint, AreValues, AreBelowBut}
use Rattle.e_simplex.specs.inner.Points.{IsPoint}
use Rattle.e_simplex.specs.declared.constraints.Constraint.{Constraint}
use Rattle.e_simplex.specs.declared.constraints.ConstraintSense.TheVariants.{More}
use Rattle.e_simplex.specs.declared.disequalities.Point.{Point}
use Rattle.e_simplex.specs.declared.disequalities.NextPoint.{NextPoint}
use Rattle.e_simplex.specs.declared.disequalities.NextPoint.TheVariants as next
use Rattle.e_simplex.specs.declared.disequalities.Satisfaction.{Satisfaction}
use Rattle.e_simplex.specs.declared.disequalities.Satisfaction.TheVariants.{Found, BothRefuted}
use Rattle.e_simplex.specs.declared.disequalities.Satisfaction.TheVariants.{TooWide}

-- each form, as a constraint that says more, may be put after the constraints
pub record AreFurther (w : ℕ) (constraints forms : List Constraint) : Type 0 where
  pub more : (k : ℕ) (d : Constraint) → k < length forms → (get_or forms k d).sense ≡ More
  pub fit : (k : ℕ) (d : Constraint) → k < length forms
      → IsFit w (constraints ++ get_or forms k d ∷ [])
  pub small : AllSmallConstraints forms
  pub within : AllFormsWithin w forms
  pub few : length forms ≤ most_rows_of_system

-- a form other than that at k has a value of size at least 2 ^ 64
pub record LargeForm (forms : List Constraint) (k : ℕ) (values : List ℤ) : Type 0 where
  pub place : ℕ
  pub here : place < length forms
  pub other : place ≢ k
  pub large : (d : Constraint)
      → 2 ^ 64 ≤ unsigned_abs (value_of_monomials (get_or forms place d).form values)

-- t times other values are added, and no form before k becomes 0
pub record IsMoved (forms : List Constraint) (k : ℕ)
    (values form_values found second : List ℤ) (t : ℕ) (m : Point) : Type 0 where
  pub second_are : AreValues (length forms) forms found second
  pub below : AreBelowBut second k
  pub some : 0 < t
  pub few : t ≤ k + 1
  pub good : NoneIsZero form_values second k t
  pub values_are : AddedTo (length values) values found t m.values.items
  pub form_values_are : AddedTo (length form_values) form_values second t m.form_values.items

-- the constraints are wide with the form at k as more or as less than 0
abbrev pub WideWith : ℕ → List Constraint → List Constraint → ℕ → Type 0
WideWith w constraints forms k =
    (d : Constraint) → HasWideMinor (rows_of (constraints ++ get_or forms k d ∷ [])) w (2 ^ 63)
    ⊎ HasWideMinor (rows_of (constraints ++ negative_constraint (get_or forms k d) ∷ [])) w (2 ^ 63)

-- the constraints are wide with that and another form
pub record WideWithTwo (w : ℕ) (constraints forms : List Constraint) (k : ℕ) : Type 0 where
  pub place : ℕ
  pub here : place < length forms
  pub other : place ≢ k
  pub wide : (d : Constraint) → HasWideMinor
      (rows_of ((constraints ++ get_or forms k d ∷ []) ++ get_or forms place d ∷ [])) w (2 ^ 63)
      ⊎ HasWideMinor (rows_of ((constraints ++ negative_constraint (get_or forms k d) ∷ [])
      ++ get_or forms place d ∷ [])) w (2 ^ 63)

-- both signs of the form at k are refuted
pub record AreBothRefuted (w : ℕ) (constraints forms : List Constraint) (k : ℕ)
    (above below : List ℤ) : Type 0 where
  pub here : k < length forms
  pub above_absurd : (d : Constraint) → IsAbsurd w (constraints ++ get_or forms k d ∷ []) above
  pub below_absurd : (d : Constraint)
      → IsAbsurd w (constraints ++ negative_constraint (get_or forms k d) ∷ []) below

abbrev pub IsNextPoint : ℕ → List Constraint → List Constraint → ℕ → NextPoint → Type 0
IsNextPoint w constraints forms k (next.Moved m) =
    IsPoint w constraints forms (k + 1) m.values.items m.form_values.items
IsNextPoint w constraints forms k (next.BothRefuted above below) =
    AreBothRefuted w constraints forms k above.items below.items
IsNextPoint w constraints forms k next.TooWide =
    WideWith w constraints forms k ⊎ WideWithTwo w constraints forms k

-- the constraints satisfied, and no form 0
pub record AreUnequal (w : ℕ) (constraints forms : List Constraint) (values : List ℤ) : Type 0 where
  pub solution : IsSolution w constraints values
  pub bounded : (c : ℕ) → c < w → unsigned_abs (get_or values c (pos 0)) < 2 ^ 90
  pub unequal : (j : ℕ) (d : Constraint) → j < length forms
      → value_of_monomials (get_or forms j d).form values ≢ pos 0

-- the constraints are wide with one form or with two
abbrev pub WideWithSome : ℕ → List Constraint → List Constraint → Type 0
WideWithSome w constraints forms =
    (k : ℕ) × (k < length forms)
    × (WideWith w constraints forms k ⊎ WideWithTwo w constraints forms k)

abbrev pub IsSatisfaction : ℕ → List Constraint → List Constraint → Satisfaction → Type 0
IsSatisfaction w constraints forms (Found values) = AreUnequal w constraints forms values.items
IsSatisfaction w constraints forms (BothRefuted k above below) =
    AreBothRefuted w constraints forms k above.items below.items
IsSatisfaction w constraints forms TooWide = WideWithSome w constraints forms
