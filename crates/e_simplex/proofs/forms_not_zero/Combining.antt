-- Values, and a multiple of other values added to them.
use Rattle.std.proofs.Common.{◌≡◌, ℕ, suc, ◌+◌, ◌<◌, List, [], ◌∷◌, ◌++◌, ap, arith, sym, ◌∙◌, subst, length, get_or, inl, inr}
use Rattle.std.proofs.lemmas.List.{length_push, get_or_push, get_or_append_left}
use Rattle.std.proofs.lemmas.Bool.{cases_eq}
use lib.IntN.{ℤ, pos, ◌+ℤ◌, ◌*ℤ◌, *ℤ-zero}
use lib.Signed.{◌≤ℤ◌}
use Rattle.e_simplex.specs.declared.constraints.Monomial.{Monomial}
use Rattle.e_simplex.specs.declared.constraints.Constraint.{Constraint}
use Rattle.e_simplex.specs.declared.constraints.ConstraintSense.{ConstraintSense}
use Rattle.e_simplex.specs.declared.constraints.ConstraintSense.TheVariants.{Zero, AtLeast, More}
use Rattle.e_simplex.specs.Constraints.{value_of_monomials, ConstraintHolds, IsSolution, AllFormsWithin}
use Rattle.e_simplex.specs.inner.Multiple.{AddedTo}
use Rattle.e_simplex.specs.inner.Tried.{AreValues}
use Rattle.e_literal.proofs.Arith.{sums, mul_add, mul_swap, mul-not_negative}

pub combined_form : (xs : List Monomial) (w : ℕ) (a b c : List ℤ) (t : ℕ) → ((k : ℕ) (d : Monomial) → k < length xs → (get_or xs k d).column < w) → AddedTo w a b t c
    → value_of_monomials xs c ≡ value_of_monomials xs a +ℤ pos t *ℤ value_of_monomials xs b
combined_form [] w a b c t h s = omega (arith, sums, *ℤ-zero (pos t))
combined_form (x ∷ xs) w a b c t h s =
    omega (
      arith,
      sums,
      ap (λ v. x.coefficient *ℤ v) (s.each x.column (h 0 x (omega arith))),
      mul_add x.coefficient (get_or a x.column (pos 0)) (pos t *ℤ get_or b x.column (pos 0)),
      mul_swap (pos t) x.coefficient (get_or b x.column (pos 0)),
      mul_add (pos t) (x.coefficient *ℤ get_or b x.column (pos 0)) (value_of_monomials xs b),
      combined_form xs w a b c t (λ k d l. h (suc k) d (omega (arith, l))) s,
    )

pub combined_constraint : (k : ConstraintSense) (x y : ℤ) (t : ℕ) → ConstraintHolds k x → ConstraintHolds k y → ConstraintHolds k (x +ℤ pos t *ℤ y)
combined_constraint Zero x y t h g = omega (arith, sums, h, ap (λ v. pos t *ℤ v) g, *ℤ-zero (pos t))
combined_constraint AtLeast x y t h g = omega (arith, sums, h, mul-not_negative (pos t) y (omega (arith, sums)) g)
combined_constraint More x y t h g = omega (arith, sums, h, mul-not_negative (pos t) y (omega (arith, sums)) (omega (arith, sums, g)))

-- a solution and a multiple of another are a solution
pub combined_solution : (w : ℕ) (constraints : List Constraint) (a b c : List ℤ) (t : ℕ) → AllFormsWithin w constraints → IsSolution w constraints a → IsSolution w constraints b → AddedTo w a b t c
    → IsSolution w constraints c
combined_solution w constraints a b c t h p q s = record {
  shape = s.shape;
  not_negative = λ i l. subst (λ v. pos 0 ≤ℤ v) (sym (s.each i l))
      (omega (arith, sums, p.not_negative i l, mul-not_negative (pos t) (get_or b i (pos 0)) (omega (arith, sums)) (q.not_negative i l)));
  holds = λ i d l. subst (ConstraintHolds (get_or constraints i d).sense) (sym (combined_form (get_or constraints i d).form w a b c t (λ k e m. (h i d l k e m).1) s))
      (combined_constraint (get_or constraints i d).sense (value_of_monomials (get_or constraints i d).form a) (value_of_monomials (get_or constraints i d).form b) t (p.holds i d l) (q.holds i d l));
}

-- the values of forms go with them
pub combined_values : (w : ℕ) (forms : List Constraint) (a b c : List ℤ) (t : ℕ) (x y z : List ℤ) → AllFormsWithin w forms → AddedTo w a b t c
    → AreValues (length forms) forms a x → AreValues (length forms) forms b y → AddedTo (length forms) x y t z → AreValues (length forms) forms c z
combined_values w forms a b c t x y z h s p q r = record {
  shape = r.shape;
  each = λ j d l. omega (
    arith,
    sums,
    r.each j l,
    p.each j d l,
    ap (λ v. pos t *ℤ v) (q.each j d l),
    combined_form (get_or forms j d).form w a b c t (λ k e m. (h j d l k e m).1) s,
  );
}

pub values_more : (n : ℕ) (forms : List Constraint) (values : List ℤ) (xs ys : List ℤ) (v : ℤ) → ys ≡ xs ++ v ∷ [] → AreValues n forms values xs
    → ((d : Constraint) → v ≡ value_of_monomials (get_or forms n d).form values) → AreValues (n + 1) forms values ys
values_more n forms values xs ys v g h e = subst (AreValues (n + 1) forms values) (sym g) (record {
  shape = omega (arith, length_push xs v, h.shape);
  each = λ j d l. elim (cases_eq j n) [
    | inl q ↦ get_or_push xs v (pos 0) j (omega (arith, h.shape, q)) ∙ e d ∙ ap (λ i. value_of_monomials (get_or forms i d).form values) (sym q)
    | inr m ↦ get_or_append_left xs (v ∷ []) (pos 0) j (omega (arith, l, m, h.shape)) ∙ h.each j d (omega (arith, l, m))
  ];
})
