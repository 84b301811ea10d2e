-- One step of the loop over the forms that are not to be 0.
use Rattle.std.proofs.Common.{◌≡◌, ◌≢◌, ℕ, ◌+◌, ◌*◌, ◌^◌, ◌<◌, ◌≤◌, List, ap, arith, sym, ◌∙◌, subst, length, get_or, inl, inr}
use Rattle.std.specs.Prelude.{unsigned_abs}
use Rattle.std.proofs.lemmas.Int.{unsigned_abs-mul}
use Rattle.std.proofs.lemmas.Nat.{mul-le}
use Rattle.std.proofs.lemmas.Bool.{cases_eq}
use lib.IntN.{ℤ, pos, ◌+ℤ◌, ◌*ℤ◌}
use borrow.Author.Differences.{abs_is}
use Rattle.e_simplex.specs.declared.constraints.Constraint.{Constraint}
use Rattle.e_simplex.specs.Entries.{AllSmall}
use Rattle.e_simplex.specs.Constraints.{IsSolution, AllFormsWithin}
use Rattle.e_simplex.specs.inner.Multiple.{AddedTo, NoneIsZero}
use Rattle.e_simplex.specs.inner.Tried.{AreValues}
use Rattle.e_simplex.specs.inner.Points.{IsPoint}
use Rattle.e_literal.proofs.Arith.{sums}
use Rattle.e_simplex.proofs.forms_not_zero.Combining.{combined_solution, combined_values}

-- a number below (k * 4097 + 1) * b and at most 4,097 times one below b
grown : (k b t : ℕ) (x y : ℤ) → t ≤ 4097 → unsigned_abs x < (k * 4097 + 1) * b → unsigned_abs y ≤ b → unsigned_abs (x +ℤ pos t *ℤ y) < ((k + 1) * 4097 + 1) * b
grown k b t x y l h g =
    omega (
      arith,
      sums,
      abs_is x,
      abs_is (pos t *ℤ y),
      abs_is (x +ℤ pos t *ℤ y),
      unsigned_abs-mul (pos t) y,
      mul-le t (unsigned_abs y) 4097 b l g,
      h,
    )

pub point_skip : (w : ℕ) (constraints forms : List Constraint) (k : ℕ) (values form_values : List ℤ) → IsPoint w constraints forms k values form_values → get_or form_values k (pos 0) ≢ pos 0 → IsPoint w constraints forms (k + 1) values form_values
point_skip w constraints forms k values form_values h n = record {
  solution = h.solution;
  bounded = λ c l. omega (arith, h.bounded c l);
  form_values_are = h.form_values_are;
  form_values_bounded = λ j l. omega (arith, h.form_values_bounded j l);
  unequal = λ j l. elim (cases_eq j k) [
    | inl e ↦ subst (λ v. get_or form_values v (pos 0) ≢ pos 0) (sym e) n
    | inr d ↦ h.unequal j (omega (arith, l, d))
  ];
}

pub point_step : (w : ℕ) (constraints forms : List Constraint) (k : ℕ) (values form_values found second : List ℤ) (t : ℕ) (values2 form_values2 : List ℤ) → AllFormsWithin w constraints → AllFormsWithin w forms
    → k < length forms → k ≤ 4096 → 0 < t → t ≤ k + 1 → IsPoint w constraints forms k values form_values → get_or form_values k (pos 0) ≡ pos 0
    → IsSolution w constraints found → AllSmall found → AreValues (length forms) forms found second
    → ((j : ℕ) → j < length forms → unsigned_abs (get_or second j (pos 0)) < 2 ^ 64) → get_or second k (pos 0) ≢ pos 0
    → NoneIsZero form_values second k t → AddedTo w values found t values2 → AddedTo (length forms) form_values second t form_values2 → IsPoint w constraints forms (k + 1) values2 form_values2
point_step w constraints forms k values form_values found second t values2 form_values2 wl wf here few z lt h none sol small sec bound some good av ah = record {
  solution = combined_solution w constraints values found values2 t wl h.solution sol av;
  bounded = λ c l.
      (let lc : c < w = omega (arith, l, av.shape) in
      subst (λ v. unsigned_abs v < ((k + 1) * 4097 + 1) * 2 ^ 63) (sym (av.each c lc))
      (grown k (2 ^ 63) t (get_or values c (pos 0)) (get_or found c (pos 0)) (omega (arith, lt, few)) (h.bounded c (omega (arith, lc, h.solution.shape)))
      (omega (arith, small c (omega (arith, lc, sol.shape))))));
  form_values_are = combined_values w forms values found values2 t form_values second form_values2 wf av h.form_values_are sec ah;
  form_values_bounded = λ j l.
      subst (λ v. unsigned_abs v < ((k + 1) * 4097 + 1) * 2 ^ 64) (sym (ah.each j l))
      (grown k (2 ^ 64) t (get_or form_values j (pos 0)) (get_or second j (pos 0)) (omega (arith, lt, few)) (h.form_values_bounded j l) (omega (arith, bound j l)));
  unequal = λ j l. elim (cases_eq j k) [
    | inl e ↦ subst (λ v. get_or form_values2 v (pos 0) ≢ pos 0) (sym e) (λ q. some (only (get_or form_values k (pos 0)) (get_or second k (pos 0)) none (sym (ah.each k here) ∙ q)))
    | inr d ↦ (λ q. good j (omega (arith, l, d)) (sym (ah.each j (omega (arith, l, here))) ∙ q))
  ];
}
  where
    only : (x y : ℤ) → x ≡ pos 0 → x +ℤ pos t *ℤ y ≡ pos 0 → y ≡ pos 0
    only x y e q = nothing t y z (omega (arith, sums, e, q))
      where
        nothing : (s : ℕ) (a : ℤ) → 0 < s → pos s *ℤ a ≡ pos 0 → a ≡ pos 0
        nothing s a p r = omega (arith, sums, abs_is a, unsigned_abs-mul (pos s) a, ap unsigned_abs r, mul-le 1 (unsigned_abs a) s (unsigned_abs a) p (omega arith))
