-- What comes of a form that is to be more than 0 or less than 0.
use Rattle.std.specs.Prelude.{◌≡◌, ◌≢◌, ◌⊎◌, ℕ, ◌^◌, ◌<◌, ◌≤◌, ◌++◌, ◌∷◌, [], ℤ, pos, neg_ℤ, List}
use Rattle.std.specs.Prelude.{length, get_or, unsigned_abs}
use Rattle.e_fraction.specs.Det.{HasWideMinor}
use Rattle.e_simplex.specs.Entries.{AllSmall}
use Rattle.e_simplex.specs.Constraints.{rows_of, value_of_monomials, IsSolution, IsAbsurd}
use Rattle.e_simplex.specs.Solved.{WideFurther}
use Rattle.e_simplex.specs.declared.constraints.Monomial.{Monomial}
use Rattle.e_simplex.specs.declared.constraints.Constraint.{Constraint}
use Rattle.e_simplex.specs.declared.constraints.ConstraintSense.TheVariants.{More}
use Rattle.e_simplex.specs.declared.unequal.Tried.{Tried}
use Rattle.e_simplex.specs.declared.unequal.Tried.TheVariants.{Found, BothRefuted, TooWide}

-- the form with each coefficient negated
abbrev pub neg_form : List Monomial → List Monomial
neg_form [] = []
neg_form (x ∷ xs) = record { coefficient = neg_ℤ x.coefficient; column = x.column } ∷ neg_form xs

-- the constraint that says that the form is less than 0
abbrev pub negative_constraint : Constraint → Constraint
negative_constraint l = record { sense = More; form = neg_form l.form }

-- whole values that satisfy the constraints, at which the form of l is not 0
pub record AreFoundValues (w : ℕ) (constraints : List Constraint) (l : Constraint)
    (values : List ℤ) : Type 0 where
  pub solution : IsSolution w constraints values
  pub small : AllSmall values
  pub unequal : value_of_monomials l.form values ≢ pos 0
  pub below : unsigned_abs (value_of_monomials l.form values) < 2 ^ 64
  pub further : WideFurther w (constraints ++ l ∷ []) values
      ⊎ WideFurther w (constraints ++ negative_constraint l ∷ []) values

abbrev pub IsTried : ℕ → List Constraint → Constraint → Tried → Type 0
IsTried w constraints l (Found values) = AreFoundValues w constraints l values.items
IsTried w constraints l (BothRefuted above below) =
    IsAbsurd w (constraints ++ l ∷ []) above.items
    × IsAbsurd w (constraints ++ negative_constraint l ∷ []) below.items
IsTried w constraints l TooWide =
    HasWideMinor (rows_of (constraints ++ l ∷ [])) w (2 ^ 63)
    ⊎ HasWideMinor (rows_of (constraints ++ negative_constraint l ∷ [])) w (2 ^ 63)

-- the values of the first n forms
pub record AreValues (n : ℕ) (forms : List Constraint)
    (values : List ℤ) (xs : List ℤ) : Type 0 where
  pub shape : length xs ≡ n
  pub each : (j : ℕ) (d : Constraint) → j < n
      → get_or xs j (pos 0) ≡ value_of_monomials (get_or forms j d).form values

-- all numbers but one have size below 2 ^ 64
abbrev pub AreBelowBut : List ℤ → ℕ → Type 0
AreBelowBut xs but = (j : ℕ) → j < length xs → j ≢ but → unsigned_abs (get_or xs j (pos 0)) < 2 ^ 64

pub record IsLargeAt (xs : List ℤ) (but j : ℕ) : Type 0 where
  pub here : j < length xs
  pub other : j ≢ but
  pub large : 2 ^ 64 ≤ unsigned_abs (get_or xs j (pos 0))
