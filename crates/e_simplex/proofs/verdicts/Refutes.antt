-- Weights that show an absurdity leave no solution.
use Rattle.std.proofs.Common.{◌≡◌, ℕ, zero, suc, ◌<◌, ◌≤◌, List, [], ◌∷◌, refl, ap, arith, sym, ◌∙◌, subst, length, get_or, inl, inr}
use Rattle.std.proofs.lemmas.Bool.{cases_eq}
use lib.IntN.{ℤ, pos, negsuc, ◌+ℤ◌, ◌*ℤ◌, *ℤ-zero, zero-*ℤ}
use lib.Signed.{◌<ℤ◌, ◌≤ℤ◌}
use Rattle.e_simplex.specs.declared.constraints.Monomial.{Monomial}
use Rattle.e_simplex.specs.declared.constraints.Constraint.{Constraint}
use Rattle.e_simplex.specs.declared.constraints.ConstraintSense.{ConstraintSense}
use Rattle.e_simplex.specs.declared.constraints.ConstraintSense.TheVariants.{Zero, AtLeast, More}
use Rattle.e_fraction.specs.Tableau.{unit}
use Rattle.e_simplex.specs.Constraints.{form_at, value_of_monomials, ConstraintHolds, weighed_at, MayWeigh, IsSolution, IsAbsurd, FormWithin, AllFormsWithin}
use Rattle.e_literal.proofs.Arith.{sums, one_mul, mul_add, add_mul, mul_assoc, mul-not_negative, mul-positive}
use Rattle.e_fraction.proofs.Minors.{unit-same, unit-other}

-- the sum over the first n columns of f times the value
abbrev over : ℕ → (ℕ → ℤ) → List ℤ → ℤ
over zero f v = pos 0
over (suc n) f v = f n *ℤ get_or v n (pos 0) +ℤ over n f v

over-none : (n : ℕ) (v : List ℤ) → over n (λ c. pos 0) v ≡ pos 0
over-none zero v = refl
over-none (suc n) v = omega (arith, sums, zero-*ℤ (get_or v n (pos 0)), over-none n v)

over-add : (n : ℕ) (f g : ℕ → ℤ) (v : List ℤ) → over n (λ c. f c +ℤ g c) v ≡ over n f v +ℤ over n g v
over-add zero f g v = refl
over-add (suc n) f g v = omega (arith, sums, add_mul (f n) (g n) (get_or v n (pos 0)), over-add n f g v)

over-scale : (n : ℕ) (a : ℤ) (f : ℕ → ℤ) (v : List ℤ) → over n (λ c. a *ℤ f c) v ≡ a *ℤ over n f v
over-scale zero a f v = sym (*ℤ-zero a)
over-scale (suc n) a f v = omega (arith, sums, mul_assoc a (f n) (get_or v n (pos 0)), over-scale n a f v, mul_add a (f n *ℤ get_or v n (pos 0)) (over n f v))

over-unit_past : (n k : ℕ) (v : List ℤ) → n ≤ k → over n (unit k) v ≡ pos 0
over-unit_past zero k v l = refl
over-unit_past (suc n) k v l =
    omega (arith, sums, ap (λ z. z *ℤ get_or v n (pos 0)) (unit-other k n (omega (arith, l))), zero-*ℤ (get_or v n (pos 0)), over-unit_past n k v (omega (arith, l)))

over-unit : (n k : ℕ) (v : List ℤ) → k < n → over n (unit k) v ≡ get_or v k (pos 0)
over-unit zero k v l = absurd (omega (arith, l))
over-unit (suc n) k v l = elim (cases_eq k n) [
  | inl e ↦ omega (
    arith,
    sums,
    ap (λ z. z *ℤ get_or v n (pos 0)) (ap (λ z. unit z n) e ∙ unit-same n),
    one_mul (get_or v n (pos 0)),
    over-unit_past n k v (omega (arith, e)),
    ap (λ z. get_or v z (pos 0)) e,
  )
  | inr d ↦ omega (arith, sums, ap (λ z. z *ℤ get_or v n (pos 0)) (unit-other k n d), zero-*ℤ (get_or v n (pos 0)), over-unit n k v (omega (arith, l, d)))
]

over-form : (w : ℕ) (form : List Monomial) (v : List ℤ) → FormWithin w form → over w (form_at form) v ≡ value_of_monomials form v
over-form w [] v h = over-none w v
over-form w (x ∷ xs) v h =
    omega (
      arith,
      sums,
      over-add w (λ c. x.coefficient *ℤ unit x.column c) (form_at xs) v,
      over-scale w x.coefficient (unit x.column) v,
      ap (λ z. x.coefficient *ℤ z) (over-unit w x.column v (h 0 x (omega arith)).1),
      over-form w xs v (λ k d l. h (suc k) d (omega (arith, l))),
    )

-- the sum of the lines' values, each times its weight
abbrev constraints_total : List Constraint → List ℤ → List ℤ → ℤ
constraints_total [] ms v = pos 0
constraints_total (l ∷ ls) [] v = pos 0
constraints_total (l ∷ ls) (m ∷ ms) v = m *ℤ value_of_monomials l.form v +ℤ constraints_total ls ms v

over-weighed : (w : ℕ) (constraints : List Constraint) (ms v : List ℤ) → AllFormsWithin w constraints → over w (weighed_at constraints ms) v ≡ constraints_total constraints ms v
over-weighed w [] ms v h = over-none w v
over-weighed w (l ∷ ls) [] v h = over-none w v
over-weighed w (l ∷ ls) (m ∷ ms) v h =
    omega (
      arith,
      sums,
      over-add w (λ c. m *ℤ form_at l.form c) (weighed_at ls ms) v,
      over-scale w m (form_at l.form) v,
      ap (λ z. m *ℤ z) (over-form w l.form v (h 0 l (omega arith))),
      over-weighed w ls ms v (λ k d n. h (suc k) d (omega (arith, n))),
    )

form_at_constant : (w : ℕ) (form : List Monomial) → FormWithin w form → form_at form 0 ≡ pos 0
form_at_constant w [] h = refl
form_at_constant w (x ∷ xs) h =
    omega (
      arith,
      sums,
      ap (λ v. x.coefficient *ℤ v) (unit-other x.column 0 (λ e. omega (arith, e, (h 0 x (omega arith)).0))),
      *ℤ-zero x.coefficient,
      form_at_constant w xs (λ k d l. h (suc k) d (omega (arith, l))),
    )

weighed_constant : (w : ℕ) (constraints : List Constraint) (ms : List ℤ) → AllFormsWithin w constraints → weighed_at constraints ms 0 ≡ pos 0
weighed_constant w [] ms h = refl
weighed_constant w (l ∷ ls) [] h = refl
weighed_constant w (l ∷ ls) (m ∷ ms) h =
    omega (
      arith,
      sums,
      ap (λ v. m *ℤ v) (form_at_constant w l.form (h 0 l (omega arith))),
      *ℤ-zero m,
      weighed_constant w ls ms (λ k d n. h (suc k) d (omega (arith, n))),
    )

mul-not_positive : (a b : ℤ) → a ≤ℤ pos 0 → pos 0 ≤ℤ b → (a *ℤ b) ≤ℤ pos 0
mul-not_positive (pos zero) b h g = omega (arith, sums, zero-*ℤ b)
mul-not_positive (pos (suc n)) b h g = absurd (omega (arith, sums, h))
mul-not_positive (negsuc n) (pos zero) h g = omega (arith, sums, *ℤ-zero (negsuc n))
mul-not_positive (negsuc n) (pos (suc m)) h g = omega (arith, sums)
mul-not_positive (negsuc n) (negsuc m) h g = absurd (omega (arith, sums, g))

over-not_positive : (n : ℕ) (f : ℕ → ℤ) (v : List ℤ) → ((c : ℕ) → c < n → f c ≤ℤ pos 0) → ((c : ℕ) → c < n → pos 0 ≤ℤ get_or v c (pos 0)) → over n f v ≤ℤ pos 0
over-not_positive zero f v h g = omega (arith, sums)
over-not_positive (suc n) f v h g =
    omega (
      arith,
      sums,
      mul-not_positive (f n) (get_or v n (pos 0)) (h n (omega arith)) (g n (omega arith)),
      over-not_positive n f v (λ c l. h c (omega (arith, l))) (λ c l. g c (omega (arith, l))),
    )

one_constraint : (k : ConstraintSense) (m z : ℤ) → MayWeigh k m → ConstraintHolds k z → pos 0 ≤ℤ (m *ℤ z)
one_constraint Zero m z a b = omega (arith, sums, ap (λ v. m *ℤ v) b, *ℤ-zero m)
one_constraint AtLeast m z a b = mul-not_negative m z a b
one_constraint More m z a b = mul-not_negative m z a (omega (arith, sums, b))

total-not_negative : (constraints : List Constraint) (ms v : List ℤ) → ((i : ℕ) (d : Constraint) → i < length constraints → MayWeigh (get_or constraints i d).sense (get_or ms i (pos 0)))
    → ((i : ℕ) (d : Constraint) → i < length constraints → ConstraintHolds (get_or constraints i d).sense (value_of_monomials (get_or constraints i d).form v)) → pos 0 ≤ℤ constraints_total constraints ms v
total-not_negative [] ms v a b = omega (arith, sums)
total-not_negative (l ∷ ls) [] v a b = omega (arith, sums)
total-not_negative (l ∷ ls) (m ∷ ms) v a b =
    omega (
      arith,
      sums,
      one_constraint l.sense m (value_of_monomials l.form v) (a 0 l (omega arith)) (b 0 l (omega arith)),
      total-not_negative ls ms v (λ i d n. a (suc i) d (omega (arith, n))) (λ i d n. b (suc i) d (omega (arith, n))),
    )

more_holds : (k : ConstraintSense) (z : ℤ) → k ≡ More → ConstraintHolds k z → pos 0 <ℤ z
more_holds k z e h = subst (λ x. ConstraintHolds x z) e h

total-positive : (constraints : List Constraint) (ms v : List ℤ) → length ms ≡ length constraints
    → ((i : ℕ) (d : Constraint) → i < length constraints → MayWeigh (get_or constraints i d).sense (get_or ms i (pos 0)))
    → ((i : ℕ) (d : Constraint) → i < length constraints → ConstraintHolds (get_or constraints i d).sense (value_of_monomials (get_or constraints i d).form v))
    → (p : ℕ) → p < length constraints → ((d : Constraint) → (get_or constraints p d).sense ≡ More) → pos 0 <ℤ get_or ms p (pos 0) → pos 0 <ℤ constraints_total constraints ms v
total-positive [] ms v e a b p l k h = absurd (omega (arith, l))
total-positive (x ∷ ls) [] v e a b p l k h = absurd (omega (arith, e))
total-positive (x ∷ ls) (m ∷ ms) v e a b zero l k h =
    omega (
      arith,
      sums,
      mul-positive m (value_of_monomials x.form v) h (more_holds x.sense (value_of_monomials x.form v) (k x) (b 0 x (omega arith))),
      total-not_negative ls ms v (λ i d n. a (suc i) d (omega (arith, n))) (λ i d n. b (suc i) d (omega (arith, n))),
    )
total-positive (x ∷ ls) (m ∷ ms) v e a b (suc p) l k h =
    omega (
      arith,
      sums,
      one_constraint x.sense m (value_of_monomials x.form v) (a 0 x (omega arith)) (b 0 x (omega arith)),
      total-positive ls ms v (omega (arith, e)) (λ i d n. a (suc i) d (omega (arith, n))) (λ i d n. b (suc i) d (omega (arith, n))) p (omega (arith, l)) k h,
    )

pub no_solution : (w : ℕ) (constraints : List Constraint) (ms v : List ℤ) → AllFormsWithin w constraints → IsAbsurd w constraints ms → IsSolution w constraints v → ⊥
no_solution w constraints ms v h a s =
    omega (
      arith,
      sums,
      over-weighed w constraints ms v h,
      over-not_positive w (weighed_at constraints ms) v
          (λ c l. elim (cases_eq c 0) [
            | inl e ↦ omega (arith, sums, ap (weighed_at constraints ms) e, weighed_constant w constraints ms h)
            | inr d ↦ a.no_positive c (omega (arith, d)) l
          ]) s.not_negative,
      total-positive constraints ms v a.shape a.signs s.holds a.some_more.0 a.some_more.1 a.some_more.2 a.some_more.3,
    )
