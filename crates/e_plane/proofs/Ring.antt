-- Equal polynomials have equal values: both sides are brought to sums of monomials, and compared.
use Rattle.std.proofs.Common.{◌≡◌, ℕ, zero, suc, List, [], ◌∷◌, refl, ap, arith, sym, ◌∙◌}
use Prim.Native.Nat.{compare, Ordering}
use native.Mathlib.Omega.{compare-eq}
use lib.IntN.{ℤ, pos, negsuc, ◌+ℤ◌, ◌-ℤ◌, ◌*ℤ◌, zero-*ℤ, *ℤ-zero}
use Rattle.e_literal.proofs.Arith.{sums, mul_add, mul_assoc, mul_swap, add_mul, mul_one, one_mul, neg_mul}

-- ---- polynomials as they are written

infixl 6 ◌⊕◌
infixl 6 ◌⊖◌
infixl 7 ◌⊗◌
pub data Expr : Type 0 where
  at : ℕ → ℕ → Expr
  num : ℤ → Expr
  ◌⊕◌ : Expr → Expr → Expr
  ◌⊖◌ : Expr → Expr → Expr
  ◌⊗◌ : Expr → Expr → Expr

-- the value at these numbers for the variables
abbrev pub value : (ℕ → ℕ → ℤ) → Expr → ℤ
value env (at i k) = env i k
value env (num c) = c
value env (p ⊕ q) = value env p +ℤ value env q
value env (p ⊖ q) = value env p -ℤ value env q
value env (p ⊗ q) = value env p *ℤ value env q

-- ---- sums of monomials: a coefficient and the variables, ascending

abbrev Variable : Type 0
Variable = ℕ × ℕ

abbrev Monomial : Type 0
Monomial = List (ℕ × ℕ)

abbrev monomial_value : (ℕ → ℕ → ℤ) → List (ℕ × ℕ) → ℤ
monomial_value env [] = pos 1
monomial_value env (v ∷ vs) = env v.0 v.1 *ℤ monomial_value env vs

abbrev sum_value : (ℕ → ℕ → ℤ) → List (ℤ × List (ℕ × ℕ)) → ℤ
sum_value env [] = pos 0
sum_value env (t ∷ ts) = t.0 *ℤ monomial_value env t.1 +ℤ sum_value env ts

pub data Order : Type 0 where
  before : Order
  same : Order
  after : Order

abbrev numbers_order : Ordering → Order
numbers_order Ordering.lt = before
numbers_order Ordering.eq = same
numbers_order Ordering.gt = after

-- by the first numbers, and where they are the same by what follows
abbrev first_of_two : Order → Order → Order
first_of_two before o = before
first_of_two same o = o
first_of_two after o = after

abbrev variable_order : ℕ × ℕ → ℕ × ℕ → Order
variable_order v w = first_of_two (numbers_order (compare v.0 w.0)) (numbers_order (compare v.1 w.1))

abbrev with_variable : ℕ × ℕ → List (ℕ × ℕ) → List (ℕ × ℕ)
with_variable v [] = v ∷ []
with_variable v (w ∷ ws) = elim (variable_order v w) [ before ↦ v ∷ w ∷ ws | same ↦ v ∷ w ∷ ws | after ↦ w ∷ with_variable v ws ]

abbrev monomial_product : List (ℕ × ℕ) → List (ℕ × ℕ) → List (ℕ × ℕ)
monomial_product [] n = n
monomial_product (v ∷ vs) n = with_variable v (monomial_product vs n)

abbrev monomial_order : List (ℕ × ℕ) → List (ℕ × ℕ) → Order
monomial_order [] [] = same
monomial_order [] (w ∷ ws) = before
monomial_order (v ∷ vs) [] = after
monomial_order (v ∷ vs) (w ∷ ws) = elim (variable_order v w) [ before ↦ before | same ↦ monomial_order vs ws | after ↦ after ]

abbrev kept : ℤ → List (ℕ × ℕ) → List (ℤ × List (ℕ × ℕ)) → List (ℤ × List (ℕ × ℕ))
kept (pos zero) m ts = ts
kept (pos (suc n)) m ts = (pos (suc n), m) ∷ ts
kept (negsuc n) m ts = (negsuc n, m) ∷ ts

abbrev with_term : ℤ → List (ℕ × ℕ) → List (ℤ × List (ℕ × ℕ)) → List (ℤ × List (ℕ × ℕ))
with_term c m [] = (c, m) ∷ []
with_term c m (t ∷ ts) = elim (monomial_order m t.1) [ before ↦ (c, m) ∷ t ∷ ts | same ↦ kept (c +ℤ t.0) m ts | after ↦ t ∷ with_term c m ts ]

-- p times one term, and q
abbrev with_multiple : ℤ → List (ℕ × ℕ) → List (ℤ × List (ℕ × ℕ)) → List (ℤ × List (ℕ × ℕ)) → List (ℤ × List (ℕ × ℕ))
with_multiple c m [] q = q
with_multiple c m (t ∷ ts) q = with_term (c *ℤ t.0) (monomial_product m t.1) (with_multiple c m ts q)

abbrev sum_product : List (ℤ × List (ℕ × ℕ)) → List (ℤ × List (ℕ × ℕ)) → List (ℤ × List (ℕ × ℕ))
sum_product [] q = []
sum_product (t ∷ ts) q = with_multiple t.0 t.1 q (sum_product ts q)

abbrev pub normal : Expr → List (ℤ × List (ℕ × ℕ))
normal (at i k) = (pos 1, (i, k) ∷ []) ∷ []
normal (num c) = kept c [] []
normal (p ⊕ q) = with_multiple (pos 1) [] (normal p) (normal q)
normal (p ⊖ q) = with_multiple (negsuc 0) [] (normal q) (normal p)
normal (p ⊗ q) = sum_product (normal p) (normal q)

-- ---- they have the same value

variable_value : (env : ℕ → ℕ → ℤ) (v : ℕ × ℕ) (m : List (ℕ × ℕ)) → monomial_value env (with_variable v m) ≡ env v.0 v.1 *ℤ monomial_value env m
variable_value env v [] = refl
variable_value env v (w ∷ ws) = by (variable_order v w) (variable_value env v ws)
  where
    by : (o : Order) → monomial_value env (with_variable v ws) ≡ env v.0 v.1 *ℤ monomial_value env ws
        → monomial_value env (elim o [ before ↦ v ∷ w ∷ ws | same ↦ v ∷ w ∷ ws | after ↦ w ∷ with_variable v ws ]) ≡ env v.0 v.1 *ℤ (env w.0 w.1 *ℤ monomial_value env ws)
    by before e = refl
    by same e = refl
    by after e = ap (λ x. env w.0 w.1 *ℤ x) e ∙ mul_swap (env v.0 v.1) (env w.0 w.1) (monomial_value env ws)

monomial_product_value : (env : ℕ → ℕ → ℤ) (m n : List (ℕ × ℕ)) → monomial_value env (monomial_product m n) ≡ monomial_value env m *ℤ monomial_value env n
monomial_product_value env [] n = sym (one_mul (monomial_value env n))
monomial_product_value env (v ∷ vs) n =
    variable_value env v (monomial_product vs n)
    ∙ ap (λ x. env v.0 v.1 *ℤ x) (monomial_product_value env vs n)
    ∙ sym (mul_assoc (env v.0 v.1) (monomial_value env vs) (monomial_value env n))

numbers_same : (i j : ℕ) (o : Ordering) → compare i j ≡ o → numbers_order o ≡ same → i ≡ j
numbers_same i j Ordering.lt e s = cc
numbers_same i j Ordering.eq e s = compare-eq i j e
numbers_same i j Ordering.gt e s = cc

both_same : (o q : Order) → first_of_two o q ≡ same → (o ≡ same) × (q ≡ same)
both_same before q e = absurd (cc)
both_same same q e = (refl, e)
both_same after q e = absurd (cc)

variables_same : (v w : ℕ × ℕ) → variable_order v w ≡ same → v ≡ w
variables_same v w e =
    let both = both_same (numbers_order (compare v.0 w.0)) (numbers_order (compare v.1 w.1)) e in
    let first : v.0 ≡ w.0 = numbers_same v.0 w.0 (compare v.0 w.0) refl both.0 in
    let second : v.1 ≡ w.1 = numbers_same v.1 w.1 (compare v.1 w.1) refl both.1 in
    ap (λ x. (x, v.1)) first ∙ ap (λ x. (w.0, x)) second

order_same : (m n : List (ℕ × ℕ)) → monomial_order m n ≡ same → m ≡ n
order_same [] [] e = refl
order_same [] (w ∷ ws) e = cc
order_same (v ∷ vs) [] e = cc
order_same (v ∷ vs) (w ∷ ws) e = by (variable_order v w) refl (order_same vs ws) e
  where
    by : (o : Order) → variable_order v w ≡ o → (monomial_order vs ws ≡ same → vs ≡ ws)
        → elim o [ before ↦ before | same ↦ monomial_order vs ws | after ↦ after ] ≡ same → v ∷ vs ≡ w ∷ ws
    by before o ih e = absurd (cc)
    by same o ih e = ap (λ x. x ∷ vs) (variables_same v w o) ∙ ap (λ x. w ∷ x) (ih e)
    by after o ih e = absurd (cc)

kept_value : (env : ℕ → ℕ → ℤ) (c : ℤ) (m : List (ℕ × ℕ)) (ts : List (ℤ × List (ℕ × ℕ))) → sum_value env (kept c m ts) ≡ c *ℤ monomial_value env m +ℤ sum_value env ts
kept_value env (pos zero) m ts = omega (arith, sums, zero-*ℤ (monomial_value env m))
kept_value env (pos (suc n)) m ts = refl
kept_value env (negsuc n) m ts = refl

term_value : (env : ℕ → ℕ → ℤ) (c : ℤ) (m : List (ℕ × ℕ)) (ts : List (ℤ × List (ℕ × ℕ))) → sum_value env (with_term c m ts) ≡ c *ℤ monomial_value env m +ℤ sum_value env ts
term_value env c m [] = refl
term_value env c m (t ∷ ts) = by (monomial_order m t.1) refl (term_value env c m ts)
  where
    by : (o : Order) → monomial_order m t.1 ≡ o → sum_value env (with_term c m ts) ≡ c *ℤ monomial_value env m +ℤ sum_value env ts
        → sum_value env (elim o [ before ↦ (c, m) ∷ t ∷ ts | same ↦ kept (c +ℤ t.0) m ts | after ↦ t ∷ with_term c m ts ])
        ≡ c *ℤ monomial_value env m +ℤ (t.0 *ℤ monomial_value env t.1 +ℤ sum_value env ts)
    by before o ih = refl
    by same o ih =
        omega (arith, sums, kept_value env (c +ℤ t.0) m ts, add_mul c t.0 (monomial_value env m), ap (λ x. t.0 *ℤ monomial_value env x) (order_same m t.1 o))
    by after o ih = omega (arith, sums)

exchanged : (a b m n : ℤ) → a *ℤ b *ℤ (m *ℤ n) ≡ a *ℤ m *ℤ (b *ℤ n)
exchanged a b m n = mul_assoc a b (m *ℤ n) ∙ ap (λ x. a *ℤ x) (mul_swap m b n) ∙ sym (mul_assoc a m (b *ℤ n))

multiple_value : (env : ℕ → ℕ → ℤ) (c : ℤ) (m : List (ℕ × ℕ)) (p q : List (ℤ × List (ℕ × ℕ))) → sum_value env (with_multiple c m p q) ≡ c *ℤ monomial_value env m *ℤ sum_value env p +ℤ sum_value env q
multiple_value env c m [] q = omega (arith, sums, *ℤ-zero (c *ℤ monomial_value env m))
multiple_value env c m (t ∷ ts) q =
    omega (
      arith,
      sums,
      term_value env (c *ℤ t.0) (monomial_product m t.1) (with_multiple c m ts q),
      multiple_value env c m ts q,
      ap (λ x. c *ℤ t.0 *ℤ x) (monomial_product_value env m t.1),
      exchanged c t.0 (monomial_value env m) (monomial_value env t.1),
      mul_add (c *ℤ monomial_value env m) (t.0 *ℤ monomial_value env t.1) (sum_value env ts),
    )

sum_product_value : (env : ℕ → ℕ → ℤ) (p q : List (ℤ × List (ℕ × ℕ))) → sum_value env (sum_product p q) ≡ sum_value env p *ℤ sum_value env q
sum_product_value env [] q = sym (zero-*ℤ (sum_value env q))
sum_product_value env (t ∷ ts) q =
    omega (
      arith,
      sums,
      multiple_value env t.0 t.1 q (sum_product ts q),
      sum_product_value env ts q,
      add_mul (t.0 *ℤ monomial_value env t.1) (sum_value env ts) (sum_value env q),
    )

pub normal_value : (env : ℕ → ℕ → ℤ) (p : Expr) → sum_value env (normal p) ≡ value env p
normal_value env (at i k) = omega (arith, sums, one_mul (env i k *ℤ pos 1), mul_one (env i k))
normal_value env (num c) = omega (arith, sums, kept_value env c [] [], mul_one c)
normal_value env (p ⊕ q) =
    omega (arith, sums, multiple_value env (pos 1) [] (normal p) (normal q), normal_value env p, normal_value env q, one_mul (sum_value env (normal p)))
normal_value env (p ⊖ q) =
    omega (
      arith,
      sums,
      multiple_value env (negsuc 0) [] (normal q) (normal p),
      normal_value env p,
      normal_value env q,
      neg_mul (pos 1) (sum_value env (normal q)),
      one_mul (sum_value env (normal q)),
    )
normal_value env (p ⊗ q) = sum_product_value env (normal p) (normal q) ∙ ap (λ x. x *ℤ sum_value env (normal q)) (normal_value env p) ∙ ap (λ x. value env p *ℤ x) (normal_value env q)

-- a polynomial whose monomials cancel is 0
pub vanishes : (env : ℕ → ℕ → ℤ) (p : Expr) → normal p ≡ [] → value env p ≡ pos 0
vanishes env p e = sym (normal_value env p) ∙ ap (sum_value env) e

pub ring : (env : ℕ → ℕ → ℤ) (p q : Expr) → normal (p ⊖ q) ≡ [] → value env p ≡ value env q
ring env p q e = omega (arith, sums, vanishes env (p ⊖ q) e)
