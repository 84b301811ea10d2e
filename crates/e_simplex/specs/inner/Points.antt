-- What the loop over the forms that are not to be 0 keeps.
use Rattle.std.specs.Prelude.{◌≢◌, ℕ, ◌+◌, ◌*◌, ◌^◌, ◌<◌, ℤ, pos, List, length, get_or}
use Rattle.std.specs.Prelude.{unsigned_abs}
use Rattle.e_simplex.specs.Constraints.{IsSolution}
use Rattle.e_simplex.specs.inner.Tried.{AreValues}
use Rattle.e_simplex.specs.declared.constraints.Constraint.{Constraint}

-- the values satisfy the constraints, the first k forms are not 0 there, and all are bounded
pub record IsPoint (w : ℕ) (constraints forms : List Constraint) (k : ℕ)
    (values form_values : List ℤ) : Type 0 where
  pub solution : IsSolution w constraints values
  pub bounded : (c : ℕ) → c < length values
      → unsigned_abs (get_or values c (pos 0)) < (k * 4097 + 1) * 2 ^ 63
  pub form_values_are : AreValues (length forms) forms values form_values
  pub form_values_bounded : (j : ℕ) → j < length forms
      → unsigned_abs (get_or form_values j (pos 0)) < (k * 4097 + 1) * 2 ^ 64
  pub unequal : (j : ℕ) → j < k → get_or form_values j (pos 0) ≢ pos 0
