-- Refutations in steps: each adds a fact to those before, and the last facts contradict each other.
use Rattle.std.proofs.Common.{◌≡◌, ℕ, List, [], ◌∷◌, ◌++◌, get_or, refl, ap, sym, ◌∙◌, Bool, true, ◌&&◌, subst}
use lib.IntN.{ℤ, pos, ◌+ℤ◌, ◌-ℤ◌, ◌*ℤ◌}
use lib.Signed.{◌≤ℤ◌, ◌<ℤ◌}
use Rattle.e_literal.proofs.Booleans.{and_left, and_right}
use Rattle.e_plane.proofs.Ring.{Expr, at, num, ◌⊕◌, ◌⊖◌, ◌⊗◌, value, normal, ring}
use Rattle.e_plane.proofs.Cone.{Fact, zero_is, positive, not_negative, unless, Holds, Hold, Cone, fact_at, of_fact, fact_holds, is_nil, nil_is, refutes, denied, true_fact, cancels, vanishing, proved, contradictory}

pub data Step : Type 0 where
  -- this is 0: times the certificate, which is positive, it is the sum of these multiples of facts
  vanish : Expr → Cone → List (ℕ × Expr) → Step
  -- this fact, by a certificate against its denial
  derive : Fact → Cone → Step
  -- the same over few variables, which stand for these polynomials: the facts at these places are so written in them
  parts : List Expr → List (ℕ × Expr) → Fact → Cone → Step
  -- the second half of the fact at this place: its first half is 0, as in `vanish`
  given : ℕ → Cone → List (ℕ × Expr) → Step

pub record Refutation : Type 0 where
  pub steps : List Step
  pub last : Cone

-- ---- polynomials for variables

abbrev pub put : List Expr → Expr → Expr
put es (at i k) = get_or es i (num (pos 0))
put es (num c) = num c
put es (p ⊕ q) = put es p ⊕ put es q
put es (p ⊖ q) = put es p ⊖ put es q
put es (p ⊗ q) = put es p ⊗ put es q

abbrev pub put_fact : List Expr → Fact → Fact
put_fact es (zero_is p) = zero_is (put es p)
put_fact es (positive p) = positive (put es p)
put_fact es (not_negative p) = not_negative (put es p)
put_fact es (unless p q) = unless (put es p) (put es q)

-- the fact of this kind that says this
abbrev pub restated : Expr → Fact → Fact
restated q (zero_is p) = zero_is q
restated q (positive p) = positive q
restated q (not_negative p) = not_negative q
restated q (unless p r) = true_fact

abbrev pub all_restated : List Fact → List (ℕ × Expr) → List Fact
all_restated fs [] = []
all_restated fs (s ∷ ss) = restated s.1 (fact_at fs s.0) ∷ all_restated fs ss

abbrev pub fit : List Fact → List Expr → List (ℕ × Expr) → Bool
fit fs es [] = true
fit fs es (s ∷ ss) = is_nil (normal (put es s.1 ⊖ of_fact (fact_at fs s.0))) && fit fs es ss

-- ---- steps

abbrev pub first_half : Fact → Expr
first_half (zero_is p) = p
first_half (positive p) = p
first_half (not_negative p) = p
first_half (unless p q) = p

abbrev pub second_half : Fact → Fact
second_half (zero_is p) = true_fact
second_half (positive p) = true_fact
second_half (not_negative p) = true_fact
second_half (unless p q) = not_negative q

abbrev pub gained : List Fact → Step → Fact
gained fs (vanish p c ms) = zero_is p
gained fs (derive g c) = g
gained fs (parts es ss g c) = put_fact es g
gained fs (given n c ms) = second_half (fact_at fs n)

abbrev pub good : List Fact → Step → Bool
good fs (vanish p c ms) = cancels fs p c ms
good fs (derive g c) = refutes (denied g) fs c
good fs (parts es ss g c) = fit fs es ss && refutes (denied g) (all_restated fs ss) c
good fs (given n c ms) = cancels fs (first_half (fact_at fs n)) c ms

abbrev pub leads : List Fact → List Step → Cone → Bool
leads fs [] c = refutes true_fact fs c
leads fs (s ∷ ss) c = good fs s && leads (fs ++ gained fs s ∷ []) ss c

-- ---- they are right

put_value : (env : ℕ → ℕ → ℤ) (es : List Expr) (p : Expr) → value env (put es p) ≡ value (λ i k. value env (get_or es i (num (pos 0)))) p
put_value env es (at i k) = refl
put_value env es (num c) = refl
put_value env es (p ⊕ q) = ap (λ x. x +ℤ value env (put es q)) (put_value env es p) ∙ ap (λ x. value (λ i k. value env (get_or es i (num (pos 0)))) p +ℤ x) (put_value env es q)
put_value env es (p ⊖ q) = ap (λ x. x -ℤ value env (put es q)) (put_value env es p) ∙ ap (λ x. value (λ i k. value env (get_or es i (num (pos 0)))) p -ℤ x) (put_value env es q)
put_value env es (p ⊗ q) = ap (λ x. x *ℤ value env (put es q)) (put_value env es p) ∙ ap (λ x. value (λ i k. value env (get_or es i (num (pos 0)))) p *ℤ x) (put_value env es q)

put_holds : (env : ℕ → ℕ → ℤ) (es : List Expr) (f : Fact) → Holds (λ i k. value env (get_or es i (num (pos 0)))) f → Holds env (put_fact es f)
put_holds env es (zero_is p) h = put_value env es p ∙ h
put_holds env es (positive p) h = subst (λ x. pos 0 <ℤ x) (sym (put_value env es p)) h
put_holds env es (not_negative p) h = subst (λ x. pos 0 ≤ℤ x) (sym (put_value env es p)) h
put_holds env es (unless p q) h = λ e. subst (λ x. pos 0 ≤ℤ x) (sym (put_value env es q)) (h (sym (put_value env es p) ∙ e))

restated_holds : (env inner : ℕ → ℕ → ℤ) (f : Fact) (q : Expr) → value inner q ≡ value env (of_fact f) → Holds env f → Holds inner (restated q f)
restated_holds env inner (zero_is p) q e h = e ∙ h
restated_holds env inner (positive p) q e h = subst (λ x. pos 0 <ℤ x) (sym e) h
restated_holds env inner (not_negative p) q e h = subst (λ x. pos 0 ≤ℤ x) (sym e) h
restated_holds env inner (unless p r) q e h = refl

all_hold : (env : ℕ → ℕ → ℤ) (fs : List Fact) (es : List Expr) (ss : List (ℕ × Expr)) → Hold env fs → fit fs es ss ≡ true
    → Hold (λ i k. value env (get_or es i (num (pos 0)))) (all_restated fs ss)
all_hold env fs es [] h e = tt
all_hold env fs es (s ∷ ss) h e =
    let here = is_nil (normal (put es s.1 ⊖ of_fact (fact_at fs s.0))) in
    let same : value env (put es s.1) ≡ value env (of_fact (fact_at fs s.0)) =
    ring env (put es s.1) (of_fact (fact_at fs s.0)) (nil_is (normal (put es s.1 ⊖ of_fact (fact_at fs s.0))) (and_left here (fit fs es ss) e)) in (
      restated_holds env (λ i k. value env (get_or es i (num (pos 0)))) (fact_at fs s.0) s.1 (sym (put_value env es s.1) ∙ same) (fact_holds env fs s.0 h),
      all_hold env fs es ss h (and_right here (fit fs es ss) e),
    )

half_holds : (env : ℕ → ℕ → ℤ) (f : Fact) → Holds env f → value env (first_half f) ≡ pos 0 → Holds env (second_half f)
half_holds env (zero_is p) h e = refl
half_holds env (positive p) h e = refl
half_holds env (not_negative p) h e = refl
half_holds env (unless p q) h e = h e

gained_holds : (env : ℕ → ℕ → ℤ) (fs : List Fact) (s : Step) → Hold env fs → good fs s ≡ true → Holds env (gained fs s)
gained_holds env fs (vanish p c ms) h e = vanishing env fs p c ms h e
gained_holds env fs (derive g c) h e = proved env g fs c h e
gained_holds env fs (parts es ss g c) h e =
    put_holds env es g
    (proved (λ i k. value env (get_or es i (num (pos 0)))) g (all_restated fs ss) c
    (all_hold env fs es ss h (and_left (fit fs es ss) (refutes (denied g) (all_restated fs ss) c) e))
    (and_right (fit fs es ss) (refutes (denied g) (all_restated fs ss) c) e))
gained_holds env fs (given n c ms) h e = half_holds env (fact_at fs n) (fact_holds env fs n h) (vanishing env fs (first_half (fact_at fs n)) c ms h e)

one_more : (env : ℕ → ℕ → ℤ) (fs : List Fact) (f : Fact) → Hold env fs → Holds env f → Hold env (fs ++ f ∷ [])
one_more env [] f h g = (g, tt)
one_more env (x ∷ xs) f h g = (h.0, one_more env xs f h.1 g)

-- facts from which steps lead to a contradiction do not all hold
pub refuted_by : (env : ℕ → ℕ → ℤ) (fs : List Fact) (ss : List Step) (c : Cone) → Hold env fs → leads fs ss c ≡ true → ⊥
refuted_by env fs [] c h e = contradictory env fs c h e
refuted_by env fs (s ∷ ss) c h e =
    let rest = leads (fs ++ gained fs s ∷ []) ss c in
    refuted_by env (fs ++ gained fs s ∷ []) ss c (one_more env fs (gained fs s) h (gained_holds env fs s h (and_left (good fs s) rest e))) (and_right (good fs s) rest e)
