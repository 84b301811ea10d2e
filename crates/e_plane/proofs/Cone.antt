-- Contradictions between signs of polynomials, by certificates. From facts that say of polynomials
-- that they are 0, positive or not negative, others follow: sums, products, squares, multiples of
-- what is 0. A certificate is one that is positive, and whose monomials cancel.
use Rattle.std.proofs.Common.{◌≡◌, ℕ, zero, suc, List, [], ◌∷◌, refl, ap, arith, ◌∙◌, Bool, true, false, ◌&&◌, ◌||◌}
use lib.IntN.{ℤ, pos, negsuc, ◌+ℤ◌, ◌-ℤ◌, ◌*ℤ◌, zero-*ℤ}
use lib.Signed.{◌≤ℤ◌, ◌<ℤ◌}
use Rattle.e_literal.proofs.Arith.{sums, mul-not_negative, mul-positive, mul_neg}
use Rattle.e_literal.proofs.Booleans.{and_left, and_right}
use Rattle.e_plane.proofs.Squares.{square-not_negative}
use Rattle.e_plane.proofs.Ring.{Expr, num, ◌⊕◌, ◌⊖◌, ◌⊗◌, value, normal, vanishes}

pub data Fact : Type 0 where
  zero_is : Expr → Fact
  positive : Expr → Fact
  not_negative : Expr → Fact
  -- where the first is 0, the second is not negative
  unless : Expr → Expr → Fact

abbrev pub Holds : (ℕ → ℕ → ℤ) → Fact → Type 0
Holds env (zero_is p) = value env p ≡ pos 0
Holds env (positive p) = pos 0 <ℤ value env p
Holds env (not_negative p) = pos 0 ≤ℤ value env p
Holds env (unless p q) = value env p ≡ pos 0 → pos 0 ≤ℤ value env q

abbrev pub Hold : (ℕ → ℕ → ℤ) → List Fact → Type 0
Hold env [] = Unit {0}
Hold env (f ∷ fs) = Holds env f × Hold env fs

-- ---- certificates

infixl 6 ◌⊞◌
infixl 7 ◌⊠◌
pub data Cone : Type 0 where
  denial : Cone
  fact : ℕ → Cone
  multiple : ℕ → Expr → Cone
  square : Expr → Cone
  some : ℕ → Cone
  ◌⊞◌ : Cone → Cone → Cone
  ◌⊠◌ : Cone → Cone → Cone

abbrev pub fact_at : List Fact → ℕ → Fact
fact_at [] n = zero_is (num (pos 0))
fact_at (f ∷ fs) zero = f
fact_at (f ∷ fs) (suc n) = fact_at fs n

abbrev pub of_fact : Fact → Expr
of_fact (zero_is p) = p
of_fact (positive p) = p
of_fact (not_negative p) = p
of_fact (unless p q) = num (pos 0)

abbrev pub strict_fact : Fact → Bool
strict_fact (zero_is p) = false
strict_fact (positive p) = true
strict_fact (not_negative p) = false
strict_fact (unless p q) = false

abbrev pub only_zero : Expr → Fact → Expr
only_zero q (zero_is p) = p ⊗ q
only_zero q (positive p) = num (pos 0)
only_zero q (not_negative p) = num (pos 0)
only_zero q (unless p r) = num (pos 0)

-- over a denied goal and facts
abbrev pub of_cone : Fact → List Fact → Cone → Expr
of_cone d fs denial = of_fact d
of_cone d fs (fact n) = of_fact (fact_at fs n)
of_cone d fs (multiple n q) = only_zero q (fact_at fs n)
of_cone d fs (square p) = p ⊗ p
of_cone d fs (some n) = num (pos (suc n))
of_cone d fs (c ⊞ e) = of_cone d fs c ⊕ of_cone d fs e
of_cone d fs (c ⊠ e) = of_cone d fs c ⊗ of_cone d fs e

abbrev pub strict : Fact → List Fact → Cone → Bool
strict d fs denial = strict_fact d
strict d fs (fact n) = strict_fact (fact_at fs n)
strict d fs (multiple n q) = false
strict d fs (square p) = false
strict d fs (some n) = true
strict d fs (c ⊞ e) = strict d fs c || strict d fs e
strict d fs (c ⊠ e) = strict d fs c && strict d fs e

-- ---- what they say is so

abbrev Signed : Bool → ℤ → Type 0
Signed true x = pos 0 <ℤ x
Signed false x = pos 0 ≤ℤ x

weaker : (b : Bool) (x : ℤ) → Signed b x → pos 0 ≤ℤ x
weaker true x h = omega (arith, sums, h)
weaker false x h = h

added : (b c : Bool) (x y : ℤ) → Signed b x → Signed c y → Signed (b || c) (x +ℤ y)
added true c x y h k = omega (arith, sums, h, weaker c y k)
added false true x y h k = omega (arith, sums, h, k)
added false false x y h k = omega (arith, sums, h, k)

multiplied : (b c : Bool) (x y : ℤ) → Signed b x → Signed c y → Signed (b && c) (x *ℤ y)
multiplied true true x y h k = mul-positive x y h k
multiplied true false x y h k = mul-not_negative x y (weaker true x h) k
multiplied false c x y h k = mul-not_negative x y h (weaker c y k)

zero_times : (x y : ℤ) → x ≡ pos 0 → pos 0 ≤ℤ (x *ℤ y)
zero_times x y e = omega (arith, sums, ap (λ z. z *ℤ y) e, zero-*ℤ y)

pub fact_holds : (env : ℕ → ℕ → ℤ) (fs : List Fact) (n : ℕ) → Hold env fs → Holds env (fact_at fs n)
fact_holds env [] n h = refl
fact_holds env (f ∷ fs) zero h = h.0
fact_holds env (f ∷ fs) (suc n) h = fact_holds env fs n h.1

signed_fact : (env : ℕ → ℕ → ℤ) (f : Fact) → Holds env f → Signed (strict_fact f) (value env (of_fact f))
signed_fact env (zero_is p) h = omega (arith, sums, h)
signed_fact env (positive p) h = h
signed_fact env (not_negative p) h = h
signed_fact env (unless p q) h = omega (arith, sums)

signed_multiple : (env : ℕ → ℕ → ℤ) (q : Expr) (f : Fact) → Holds env f → pos 0 ≤ℤ value env (only_zero q f)
signed_multiple env q (zero_is p) h = zero_times (value env p) (value env q) h
signed_multiple env q (positive p) h = omega (arith, sums)
signed_multiple env q (not_negative p) h = omega (arith, sums)
signed_multiple env q (unless p r) h = omega (arith, sums)

signed : (env : ℕ → ℕ → ℤ) (d : Fact) (fs : List Fact) → Holds env d → Hold env fs → (c : Cone) → Signed (strict d fs c) (value env (of_cone d fs c))
signed env d fs g h denial = signed_fact env d g
signed env d fs g h (fact n) = signed_fact env (fact_at fs n) (fact_holds env fs n h)
signed env d fs g h (multiple n q) = signed_multiple env q (fact_at fs n) (fact_holds env fs n h)
signed env d fs g h (square p) = square-not_negative (value env p)
signed env d fs g h (some n) = omega (arith, sums)
signed env d fs g h (c ⊞ e) =
    added (strict d fs c) (strict d fs e) (value env (of_cone d fs c)) (value env (of_cone d fs e)) (signed env d fs g h c) (signed env d fs g h e)
signed env d fs g h (c ⊠ e) =
    multiplied (strict d fs c) (strict d fs e) (value env (of_cone d fs c)) (value env (of_cone d fs e)) (signed env d fs g h c) (signed env d fs g h e)

clash : (b : Bool) (x : ℤ) → b ≡ true → Signed b x → x ≡ pos 0 → ⊥
clash true x e h z = omega (arith, sums, h, z)
clash false x e h z = cc

-- a positive number which is 0
abbrev pub is_nil : List (ℤ × List (ℕ × ℕ)) → Bool
is_nil [] = true
is_nil (t ∷ ts) = false

pub nil_is : (ts : List (ℤ × List (ℕ × ℕ))) → is_nil ts ≡ true → ts ≡ []
nil_is [] e = refl
nil_is (t ∷ ts) e = cc

abbrev pub refutes : Fact → List Fact → Cone → Bool
refutes d fs c = strict d fs c && is_nil (normal (of_cone d fs c))

refuted : (env : ℕ → ℕ → ℤ) (d : Fact) (fs : List Fact) (c : Cone) → Holds env d → Hold env fs → refutes d fs c ≡ true → ⊥
refuted env d fs c g h e =
    clash (strict d fs c) (value env (of_cone d fs c)) (and_left (strict d fs c) (is_nil (normal (of_cone d fs c))) e) (signed env d fs g h c)
    (vanishes env (of_cone d fs c) (nil_is (normal (of_cone d fs c)) (and_right (strict d fs c) (is_nil (normal (of_cone d fs c))) e)))

-- ---- goals

-- what holds where the goal does not; a goal of another form is never proved
abbrev pub denied : Fact → Fact
denied (zero_is p) = positive (p ⊗ p)
denied (positive p) = not_negative (num (pos 0) ⊖ p)
denied (not_negative p) = positive (num (pos 0) ⊖ p)
denied (unless p q) = zero_is (num (pos 0))

abbrev pub true_fact : Fact
true_fact = zero_is (num (pos 0))

number_positive : (x : ℤ) → (pos 0 ≤ℤ (pos 0 -ℤ x) → ⊥) → pos 0 <ℤ x
number_positive (pos zero) f = absurd (f (omega (arith, sums)))
number_positive (pos (suc n)) f = omega (arith, sums)
number_positive (negsuc n) f = absurd (f (omega (arith, sums)))

number_not_negative : (x : ℤ) → (pos 0 <ℤ (pos 0 -ℤ x) → ⊥) → pos 0 ≤ℤ x
number_not_negative (pos n) f = omega (arith, sums)
number_not_negative (negsuc n) f = absurd (f (omega (arith, sums)))

number_zero : (x : ℤ) → (pos 0 <ℤ (x *ℤ x) → ⊥) → x ≡ pos 0
number_zero (pos zero) f = refl
number_zero (pos (suc n)) f = absurd (f (omega (arith, sums)))
number_zero (negsuc n) f = absurd (f (omega (arith, sums)))

by_denial : (env : ℕ → ℕ → ℤ) (g : Fact) → (Holds env (denied g) → ⊥) → Holds env g
by_denial env (zero_is p) f = number_zero (value env p) f
by_denial env (positive p) f = number_positive (value env p) f
by_denial env (not_negative p) f = number_not_negative (value env p) f
by_denial env (unless p q) f = absurd (f refl)

pub proved : (env : ℕ → ℕ → ℤ) (g : Fact) (fs : List Fact) (c : Cone) → Hold env fs → refutes (denied g) fs c ≡ true → Holds env g
proved env g fs c h e = by_denial env g (λ d. refuted env (denied g) fs c d h e)

pub contradictory : (env : ℕ → ℕ → ℤ) (fs : List Fact) (c : Cone) → Hold env fs → refutes true_fact fs c ≡ true → ⊥
contradictory env fs c h e = refuted env true_fact fs c refl h e

-- ---- a polynomial that is 0: times something positive it is a sum of multiples of such polynomials

abbrev pub multiples : List Fact → List (ℕ × Expr) → Expr
multiples fs [] = num (pos 0)
multiples fs (m ∷ ms) = only_zero m.1 (fact_at fs m.0) ⊕ multiples fs ms

abbrev pub cancels : List Fact → Expr → Cone → List (ℕ × Expr) → Bool
cancels fs p c ms = strict true_fact fs c && is_nil (normal (of_cone true_fact fs c ⊗ p ⊖ multiples fs ms))

zero_multiple : (env : ℕ → ℕ → ℤ) (q : Expr) (f : Fact) → Holds env f → value env (only_zero q f) ≡ pos 0
zero_multiple env q (zero_is p) h = ap (λ x. x *ℤ value env q) h ∙ zero-*ℤ (value env q)
zero_multiple env q (positive p) h = refl
zero_multiple env q (not_negative p) h = refl
zero_multiple env q (unless p r) h = refl

zero_multiples : (env : ℕ → ℕ → ℤ) (fs : List Fact) → Hold env fs → (ms : List (ℕ × Expr)) → value env (multiples fs ms) ≡ pos 0
zero_multiples env fs h [] = refl
zero_multiples env fs h (m ∷ ms) =
    omega (arith, sums, zero_multiple env m.1 (fact_at fs m.0) (fact_holds env fs m.0 h), zero_multiples env fs h ms)

divided : (b : Bool) (x y : ℤ) → b ≡ true → Signed b x → x *ℤ y ≡ pos 0 → y ≡ pos 0
divided false x y e h z = cc
divided true x (pos zero) e h z = refl
divided true x (pos (suc n)) e h z = absurd (omega (arith, sums, mul-positive x (pos (suc n)) h (omega (arith, sums)), z))
divided true x (negsuc n) e h z = absurd (omega (arith, sums, mul-positive x (pos (suc n)) h (omega (arith, sums)), mul_neg x (pos (suc n)), z))

pub vanishing : (env : ℕ → ℕ → ℤ) (fs : List Fact) (p : Expr) (c : Cone) (ms : List (ℕ × Expr)) → Hold env fs → cancels fs p c ms ≡ true → value env p ≡ pos 0
vanishing env fs p c ms h e =
    let all = of_cone true_fact fs c ⊗ p ⊖ multiples fs ms in
    let z : value env (of_cone true_fact fs c) *ℤ value env p -ℤ value env (multiples fs ms) ≡ pos 0 =
    vanishes env all (nil_is (normal all) (and_right (strict true_fact fs c) (is_nil (normal all)) e)) in
    divided (strict true_fact fs c) (value env (of_cone true_fact fs c)) (value env p)
    (and_left (strict true_fact fs c) (is_nil (normal all)) e) (signed env true_fact fs refl h c)
    (omega (arith, sums, z, zero_multiples env fs h ms))
