-- One step of the loop over the forms that are not to be 0: the point that comes of it, and when
-- the constraints are wide.
use Rattle.std.proofs.Common.{◌≡◌, ℕ, ◌+◌, ◌^◌, ◌<◌, List, [], ◌∷◌, ◌++◌, ap, arith, sym, ◌∙◌, subst, length, get_or, ◌⊎◌, inl, inr}
use Rattle.std.specs.Prelude.{unsigned_abs}
use Rattle.std.proofs.lemmas.Bool.{cases_eq}
use lib.IntN.{ℤ, pos}
use Rattle.e_simplex.specs.declared.constraints.Constraint.{Constraint}
use Rattle.e_simplex.specs.declared.constraints.ConstraintSense.TheVariants.{More}
use Rattle.e_simplex.specs.declared.disequalities.Point.{Point}
use Rattle.e_fraction.specs.Det.{HasWideMinor}
use Rattle.e_simplex.specs.Constraints.{rows_of, value_of_monomials, AllFormsWithin}
use Rattle.e_simplex.specs.inner.Multiple.{AddedTo}
use Rattle.e_simplex.specs.Solved.{WideFurther}
use Rattle.e_simplex.specs.inner.Tried.{AreFoundValues, negative_constraint, AreValues, AreBelowBut}
use Rattle.e_simplex.specs.inner.Points.{IsPoint}
use Rattle.e_simplex.specs.inner.Disequalities.{AreFurther, LargeForm, IsMoved, WideWithTwo}
use Rattle.e_simplex.proofs.forms_not_zero.PointSteps.{point_step}

some_constraint : Constraint
some_constraint = record { sense = More; form = [] }

pub all_below : (forms : List Constraint) (k : ℕ) (found second : List ℤ) → AreValues (length forms) forms found second → AreBelowBut second k
    → ((d : Constraint) → unsigned_abs (value_of_monomials (get_or forms k d).form found) < 2 ^ 64) → (j : ℕ) → j < length forms → unsigned_abs (get_or second j (pos 0)) < 2 ^ 64
all_below forms k found second v b h j l = elim (cases_eq j k) [
  | inl e ↦ subst (λ z. unsigned_abs z < 2 ^ 64) (sym (v.each j some_constraint l ∙ ap (λ i. value_of_monomials (get_or forms i some_constraint).form found) e)) (h some_constraint)
  | inr d ↦ b j (omega (arith, l, v.shape)) d
]

module _ (w : ℕ) (constraints forms : List Constraint) (k : ℕ) (l : Constraint) (at : (d : Constraint) → l ≡ get_or forms k d) (here : k < length forms) where
  pub next_point_is : (values form_values found second : List ℤ) (t : ℕ) (m : Point) → AllFormsWithin w constraints → AreFurther w constraints forms
      → IsPoint w constraints forms k values form_values → get_or form_values k (pos 0) ≡ pos 0 → AreFoundValues w constraints l found → IsMoved forms k values form_values found second t m
      → IsPoint w constraints forms (k + 1) m.values.items m.form_values.items
  next_point_is values form_values found second t m wl af point none f s =
      point_step w constraints forms k values form_values found second t m.values.items m.form_values.items wl af.within here (omega (arith, af.few, here)) s.some s.few point none
      f.solution f.small s.second_are
      (all_below forms k found second s.second_are s.below (λ d. subst (λ v. unsigned_abs (value_of_monomials v.form found) < 2 ^ 64) (at d) f.below))
      (λ z. f.unequal (ap (λ v. value_of_monomials v.form found) (at some_constraint) ∙ sym (s.second_are.each k some_constraint here) ∙ z))
      s.good (subst (λ n. AddedTo n values found t m.values.items) point.solution.shape s.values_are)
      (subst (λ n. AddedTo n form_values second t m.form_values.items) point.form_values_are.shape s.form_values_are)

  pub step_wide_two : (found : List ℤ) → AreFurther w constraints forms → AreFoundValues w constraints l found → LargeForm forms k found → WideWithTwo w constraints forms k
  step_wide_two found af f g = record {
    place = g.place;
    here = g.here;
    other = g.other;
    wide = λ d. by d f.further;
  }
    where
      by : (d : Constraint) → WideFurther w (constraints ++ l ∷ []) found ⊎ WideFurther w (constraints ++ negative_constraint l ∷ []) found
          → HasWideMinor (rows_of ((constraints ++ get_or forms k d ∷ []) ++ get_or forms g.place d ∷ [])) w (2 ^ 63)
          ⊎ HasWideMinor (rows_of ((constraints ++ negative_constraint (get_or forms k d) ∷ []) ++ get_or forms g.place d ∷ [])) w (2 ^ 63)
      by d (inl h) =
          inl (subst (λ v. HasWideMinor (rows_of ((constraints ++ v ∷ []) ++ get_or forms g.place d ∷ [])) w (2 ^ 63)) (at d)
          (h (get_or forms g.place d) (af.more g.place d g.here) (af.within g.place d g.here) (g.large d)))
      by d (inr h) =
          inr (subst (λ v. HasWideMinor (rows_of ((constraints ++ negative_constraint v ∷ []) ++ get_or forms g.place d ∷ [])) w (2 ^ 63)) (at d)
          (h (get_or forms g.place d) (af.more g.place d g.here) (af.within g.place d g.here) (g.large d)))
