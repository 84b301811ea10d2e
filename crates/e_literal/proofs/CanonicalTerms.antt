-- What a term shares with its canonical form, and so with each that is one term with it.
use Rattle.std.proofs.Common.{◌≡◌, ◌≢◌, ℕ, ◌≤◌, refl, sym, ap, ◌∙◌, arith, Bool, true, false, ◌||◌, ◌==◌, eqb, eq-eqb, true≢false, inl, inr, min, max, eqb-true}
use Rattle.std.proofs.lemmas.Bool.{or_left, or_right, or_cases, cases_Bool}
use Rattle.e_literal.specs.declared.object.Term.{Term}
use Rattle.e_literal.specs.declared.object.Term.TheVariants.{Seg, Ang, Area, Right}
use Rattle.e_literal.specs.Literal.{kind_of_term}
use Rattle.e_literal.specs.Same.{canonical, one_term}
use Rattle.e_literal.specs.Rows.{is_degenerate}
use Rattle.e_literal.proofs.Terms.{term_eq_is, equal_terms}
use Rattle.e_literal.proofs.Booleans.{same_bool}

pub kind_canonical : (t : Term) → kind_of_term (canonical t) ≡ kind_of_term t
kind_canonical (Seg a b) = refl
kind_canonical (Ang a b c) = refl
kind_canonical (Area a b c) = refl
kind_canonical Right = refl

-- two of three numbers are equal
abbrev two_equal : ℕ → ℕ → ℕ → Bool
two_equal a b c = a == b || (b == c || a == c)

two_equal_of : (a b c : ℕ) → (a ≢ b → b ≢ c → a ≢ c → ⊥) → two_equal a b c ≡ true
two_equal_of a b c h = elim (cases_Bool (eqb a b)) [
  | inl x ↦ or_left (eqb a b) (eqb b c || eqb a c) x
  | inr x ↦ or_right (eqb a b) (eqb b c || eqb a c) (elim (cases_Bool (eqb b c)) [
    | inl y ↦ or_left (eqb b c) (eqb a c) y
    | inr y ↦ or_right (eqb b c) (eqb a c) (elim (cases_Bool (eqb a c)) [
      | inl z ↦ z
      | inr z ↦ absurd (h (apart a b x) (apart b c y) (apart a c z))
    ])
  ])
]
  where
    apart : (m n : ℕ) → eqb m n ≡ false → m ≢ n
    apart m n f e = true≢false (sym (eq-eqb m n e) ∙ f)

two_equal_is : (a b c : ℕ) → two_equal a b c ≡ true → a ≢ b → b ≢ c → a ≢ c → ⊥
two_equal_is a b c h x y z = elim (or_cases (eqb a b) (eqb b c || eqb a c) h) [
  | inl e ↦ x (eqb-true a b e)
  | inr k ↦ elim (or_cases (eqb b c) (eqb a c) k) [
    | inl e ↦ y (eqb-true b c e)
    | inr e ↦ z (eqb-true a c e)
  ]
]

pub degenerate_canonical : (t : Term) → is_degenerate (canonical t) ≡ is_degenerate t
degenerate_canonical (Seg a b) =
    same_bool (eqb (min a b) (max a b)) (eqb a b)
    (λ h. eq-eqb a b (omega (arith, eqb-true (min a b) (max a b) h)))
    (λ h. eq-eqb (min a b) (max a b) (omega (arith, eqb-true a b h)))
degenerate_canonical (Ang a b c) = refl
degenerate_canonical (Area a b c) =
    let least = min (min a b) c in
    let middle = max (min a b) (min (max a b) c) in
    let most = max (max a b) c in
    same_bool (two_equal least middle most) (two_equal a b c)
    (λ h. two_equal_of a b c (λ x y z. two_equal_is least middle most h (λ e. omega (arith, e, x, y, z)) (λ e. omega (arith, e, x, y, z)) (λ e. omega (arith, e, x, y, z))))
    (λ h. two_equal_of least middle most (λ x y z. two_equal_is a b c h (λ e. omega (arith, e, x, y, z)) (λ e. omega (arith, e, x, y, z)) (λ e. omega (arith, e, x, y, z))))
degenerate_canonical Right = refl

-- three numbers in order stay as they are
sorted : (a b c : ℕ) → a ≤ b → b ≤ c → canonical (Area a b c) ≡ Area a b c
sorted a b c h g =
    let least : min (min a b) c ≡ a = omega (arith, h, g) in
    let middle : max (min a b) (min (max a b) c) ≡ b = omega (arith, h, g) in
    let most : max (max a b) c ≡ c = omega (arith, h, g) in
    cc

pub canonical_twice : (t : Term) → canonical (canonical t) ≡ canonical t
canonical_twice (Seg a b) =
    let least : min (min a b) (max a b) ≡ min a b = omega arith in
    let most : max (min a b) (max a b) ≡ max a b = omega arith in
    cc
canonical_twice (Ang a b c) =
    let least : min (min a c) (max a c) ≡ min a c = omega arith in
    let most : max (min a c) (max a c) ≡ max a c = omega arith in
    cc
canonical_twice (Area a b c) =
    sorted (min (min a b) c) (max (min a b) (min (max a b) c)) (max (max a b) c) (omega arith) (omega arith)
canonical_twice Right = refl

-- ---- terms that are one term

pub one_term_is : (s t : Term) → one_term s t ≡ true → canonical s ≡ canonical t
one_term_is s t h = term_eq_is (canonical s) (canonical t) h

pub one_term_of : (s t : Term) → canonical s ≡ canonical t → one_term s t ≡ true
one_term_of s t e = equal_terms (canonical s) (canonical t) e

pub same_degenerate : (s t : Term) → canonical s ≡ canonical t → is_degenerate s ≡ is_degenerate t
same_degenerate s t e = sym (degenerate_canonical s) ∙ ap is_degenerate e ∙ degenerate_canonical t

pub same_kind_of_term : (s t : Term) → canonical s ≡ canonical t → kind_of_term s ≡ kind_of_term t
same_kind_of_term s t e = sym (kind_canonical s) ∙ ap kind_of_term e ∙ kind_canonical t
