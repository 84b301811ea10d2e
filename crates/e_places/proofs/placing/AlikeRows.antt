-- The row of a literal, and that of the fact that is the same.
use Rattle.std.proofs.Common.{◌≡◌, ℕ, suc, ◌+◌, List, [], ◌∷◌, ◌++◌, refl, sym, ap, ap₂, ◌∙◌, arith, Bool, true, false, not, cond, ◌&&◌, ◌||◌, true≢false, eq-eqb, eqb-true, ◌⊎◌, inl, inr, Some, slice_get, subst}
use Rattle.std.proofs.lemmas.Bool.{or_cases, cases_Bool}
use Rattle.std.proofs.lemmas.Option.{none-some, same_Some}
use Rattle.std.proofs.lemmas.Int.{ints}
use lib.IntN.{pos, ◌-ℤ◌, neg_ℤ}
use Rattle.e_literal.specs.declared.object.Term.{Term}
use Rattle.e_literal.specs.declared.object.Mono.{Mono}
use Rattle.e_literal.specs.declared.literal.Lit.{Lit}
use Rattle.e_literal.specs.declared.literal.Atom.{Atom}
use Rattle.e_literal.specs.declared.literal.Atom.TheVariants.{MagEq, MagLt}
use Rattle.e_literal.specs.Facts.{has}
use Rattle.e_literal.specs.Same.{canonical, term_eq, one_term, coeff_of, agree_at, agree, same_atom, same_neg, same_lit, EqualNormal}
use Rattle.e_literal.specs.Rows.{Row, Zero, AtLeast, More, Not, coefficient, is_degenerate, normal_summands, row, plus, minus, row_of_atom, row_of_lit}
use Rattle.e_literal.proofs.Agreeing.{coeff_same, equal_of_agree}
use Rattle.e_literal.proofs.Booleans.{and_left, and_right, same_neg_is}
use Rattle.e_literal.proofs.CanonicalTerms.{one_term_is, same_degenerate}
use Rattle.e_literal.proofs.Valued.{IsMagEq, IsMagLt, IsDiagram, split, is_normal, normal_coefficient, same_form}
use Rattle.e_places.specs.Numbered.{place_of_same, have_one_form_at, have_one_form, have_opposite_rows}

-- ---- the fact at its place

one_more : (n : ℕ) → 1 + n ≡ suc n
one_more n = omega arith

pub placed_fact : (facts : List Lit) (l : Lit) → has facts l ≡ true → (f : Lit) × (slice_get facts (place_of_same facts l) ≡ Some f) × (same_lit f l ≡ true)
placed_fact [] l h = absurd (true≢false (sym h))
placed_fact (f ∷ facts) l h = by (same_lit f l) refl h (λ k. placed_fact facts l k)
  where
    by : (b : Bool) → same_lit f l ≡ b → (b || has facts l) ≡ true → (has facts l ≡ true → (g : Lit) × (slice_get facts (place_of_same facts l) ≡ Some g) × (same_lit g l ≡ true))
        → (g : Lit) × (slice_get (f ∷ facts) (cond (not b) (1 + place_of_same facts l) 0) ≡ Some g) × (same_lit g l ≡ true)
    by true e k later = (f, refl, e)
    by false e k later = let r = later k in (r.0, ap (slice_get (f ∷ facts)) (one_more (place_of_same facts l)) ∙ r.1, r.2)

-- ---- forms that count alike

-- either some monomial of the list has the term, or its coefficient is 0
found_by : (b : Bool) (x y z w ms : List Mono) (m : Mono) (t : Term) → one_term m.term t ≡ b → is_degenerate t ≡ false → have_one_form_at x y z w (m ∷ ms) ≡ true
    → (coeff_of x t + coeff_of w t ≡ coeff_of z t + coeff_of y t) ⊎ (cond b m.coeff 0 ≡ 0)
found_by true x y z w ms m t is d h =
    let same : canonical m.term ≡ canonical t = one_term_is m.term t is in
    let first : (is_degenerate m.term || agree_at x y z w m.term) ≡ true = and_left (is_degenerate m.term || agree_at x y z w m.term) (have_one_form_at x y z w ms) h in
    let agrees : agree_at x y z w m.term ≡ true = sym (ap (λ b. b || agree_at x y z w m.term) (same_degenerate m.term t same ∙ d)) ∙ first in
    let here = eqb-true (coeff_of x m.term + coeff_of w m.term) (coeff_of z m.term + coeff_of y m.term) agrees in
    inl (omega (arith, here, coeff_same x m.term t same, coeff_same w m.term t same, coeff_same z m.term t same, coeff_same y m.term t same))
found_by false x y z w ms m t is d h = inr refl

found : (x y z w ms : List Mono) (t : Term) → is_degenerate t ≡ false → have_one_form_at x y z w ms ≡ true → (coeff_of x t + coeff_of w t ≡ coeff_of z t + coeff_of y t) ⊎ (coeff_of ms t ≡ 0)
found x y z w [] t d h = inr refl
found x y z w (m ∷ ms) t d h =
    elim (found_by (one_term m.term t) x y z w ms m t refl d h) [
      | inl e ↦ inl e
      | inr here ↦ elim (found x y z w ms t d (and_right (is_degenerate m.term || agree_at x y z w m.term) (have_one_form_at x y z w ms) h)) [ inl e ↦ inl e | inr later ↦ inr (omega (arith, here, later)) ]
    ]

alike_at : (x y z w : List Mono) (t : Term) → is_degenerate t ≡ false → have_one_form x y z w ≡ true → coeff_of x t + coeff_of w t ≡ coeff_of z t + coeff_of y t
alike_at x y z w t d h =
    let after_x = and_right (have_one_form_at x y z w x) (have_one_form_at x y z w y && (have_one_form_at x y z w z && have_one_form_at x y z w w)) h in
    let after_y = and_right (have_one_form_at x y z w y) (have_one_form_at x y z w z && have_one_form_at x y z w w) after_x in
    let after_z = and_right (have_one_form_at x y z w z) (have_one_form_at x y z w w) after_y in
    elim (found x y z w x t d (and_left (have_one_form_at x y z w x) (have_one_form_at x y z w y && (have_one_form_at x y z w z && have_one_form_at x y z w w)) h)) [
      | inl e ↦ e
      | inr a ↦ elim (found x y z w y t d (and_left (have_one_form_at x y z w y) (have_one_form_at x y z w z && have_one_form_at x y z w w) after_x)) [
        | inl e ↦ e
        | inr b ↦ elim (found x y z w z t d (and_left (have_one_form_at x y z w z) (have_one_form_at x y z w w) after_y)) [
          | inl e ↦ e
          | inr c ↦ elim (found x y z w w t d after_z) [ inl e ↦ e | inr k ↦ omega (arith, a, b, c, k) ]
        ]
      ]
    ]

alike_of_equal : (x y z w ms : List Mono) → EqualNormal x y z w → have_one_form_at x y z w ms ≡ true
alike_of_equal x y z w [] h = refl
alike_of_equal x y z w (m ∷ ms) h = ap₂ {A = Bool} {B = Bool} (λ a b. a && b) (by (is_degenerate m.term) (eq-eqb (coeff_of x m.term + coeff_of w m.term) (coeff_of z m.term + coeff_of y m.term) (h m.term))) (alike_of_equal x y z w ms h)
  where
    by : (b : Bool) → agree_at x y z w m.term ≡ true → (b || agree_at x y z w m.term) ≡ true
    by true e = refl
    by false e = e

all_alike_of_equal : (x y z w : List Mono) → EqualNormal x y z w → have_one_form x y z w ≡ true
all_alike_of_equal x y z w h =
    let a = alike_of_equal x y z w x h in
    let b = alike_of_equal x y z w y h in
    let c = alike_of_equal x y z w z h in
    let d = alike_of_equal x y z w w h in
    rw (a, b, c, d)

-- rows that count alike have one form
alike_forms : (x y z w : List Mono) → have_one_form x y z w ≡ true → (t : Term) → coefficient (normal_summands (plus x ++ minus y)) t ≡ coefficient (normal_summands (plus z ++ minus w)) t
alike_forms x y z w h t = normal_coefficient x y t ∙ by (cases_Bool (is_normal t)) ∙ sym (normal_coefficient z w t)
  where
    inside : is_normal t ≡ true → is_degenerate t ≡ false
    inside n = by_not (is_degenerate t) (and_right (term_eq (canonical t) t) (not (is_degenerate t)) n)
      where
        by_not : (b : Bool) → not b ≡ true → b ≡ false
        by_not true k = absurd (true≢false (sym k))
        by_not false k = refl

    by : (is_normal t ≡ true) ⊎ (is_normal t ≡ false) → cond (is_normal t) (pos (coeff_of x t) -ℤ pos (coeff_of y t)) (pos 0) ≡ cond (is_normal t) (pos (coeff_of z t) -ℤ pos (coeff_of w t)) (pos 0)
    by (inl n) = ap (λ k. cond (is_normal t) k (pos 0)) (let e = alike_at x y z w t (inside n) h in omega (arith, ints, e))
    by (inr n) = rw n refl

-- the form of y - x is opposite to that of x - y
opposite_forms : (x y : List Mono) (t : Term) → coefficient (normal_summands (plus y ++ minus x)) t ≡ neg_ℤ (coefficient (normal_summands (plus x ++ minus y)) t)
opposite_forms x y t = normal_coefficient y x t ∙ by (is_normal t) ∙ sym (ap neg_ℤ (normal_coefficient x y t))
  where
    by : (b : Bool) → cond b (pos (coeff_of y t) -ℤ pos (coeff_of x t)) (pos 0) ≡ neg_ℤ (cond b (pos (coeff_of x t) -ℤ pos (coeff_of y t)) (pos 0))
    by true = omega (arith, ints)
    by false = refl

-- ---- rows

-- they say the same of one form, or, where the second is turned, of opposite forms; then they say that it is 0, or that it is not
pub record AreAlike (turned : Bool) (r s : Row) : Type 0 where
  pub sense : s.sense ≡ r.sense
  pub form : (t : Term) → coefficient s.form t ≡ cond turned (neg_ℤ (coefficient r.form t)) (coefficient r.form t)
  pub sign : turned ≡ true → (r.sense ≡ Zero) ⊎ (r.sense ≡ Not)

-- the rows of two equations that are the same
equation_rows : (neg : Bool) (x y z w : List Mono) → (agree x y z w || agree x y w z) ≡ true
    → AreAlike (not (have_one_form z w x y)) (row (cond neg Not Zero) (plus z ++ minus w)) (row (cond neg Not Zero) (plus x ++ minus y))
equation_rows neg x y z w h = by (have_one_form z w x y) refl
  where
    says_so : (b : Bool) → (cond b Not Zero ≡ Zero) ⊎ (cond b Not Zero ≡ Not)
    says_so true = inr refl
    says_so false = inl refl

    by : (b : Bool) → have_one_form z w x y ≡ b → AreAlike (not b) (row (cond neg Not Zero) (plus z ++ minus w)) (row (cond neg Not Zero) (plus x ++ minus y))
    by true e = record { sense = refl; form = λ t. sym (alike_forms z w x y e t); sign = λ k. absurd (true≢false (sym k)) }
    by false e = record {
      sense = refl;
      form = λ t. elim (or_cases (agree x y z w) (agree x y w z) h) [
        | inl a ↦ absurd (true≢false (sym (all_alike_of_equal z w x y (λ u. sym (equal_of_agree x y z w a u))) ∙ e))
        | inr c ↦ same_form x y w z (equal_of_agree x y w z c) t ∙ opposite_forms z w t
      ];
      sign = λ k. says_so neg;
    }

-- what is the same as an equation is one, and so it is with an order
equation : (a : Atom) (z w : List Mono) → same_atom a (MagEq z w) ≡ true → (x y : List Mono) × (a ≡ MagEq x y) × ((agree x y z w || agree x y w z) ≡ true)
equation (MagEq x y) z w h = (x, y, refl, h)
equation _ z w h = absurd (true≢false (sym h))

order : (a : Atom) (z w : List Mono) → same_atom a (MagLt z w) ≡ true → (x y : List Mono) × (a ≡ MagLt x y) × (agree x y z w ≡ true)
order (MagLt x y) z w h = (x, y, refl, h)
order _ z w h = absurd (true≢false (sym h))

-- the fact that is the same as a metric literal has a row too, which is alike
pub alike_rows : (f l : Lit) (r : Row) → same_lit f l ≡ true → row_of_lit l ≡ Some r → (s : Row) × (row_of_lit f ≡ Some s) × AreAlike (have_opposite_rows l.atom f.atom) r s
alike_rows f l r h e =
    atoms (split l.atom) (and_right (same_neg f.neg l.neg) (same_atom f.atom l.atom) h)
  where
    sign : f.neg ≡ l.neg
    sign = same_neg_is f.neg l.neg (and_left (same_neg f.neg l.neg) (same_atom f.atom l.atom) h)

    -- with these atoms
    with_atoms : (a b : Atom) (s : Row) → f.atom ≡ a → l.atom ≡ b → row_of_atom a l.neg ≡ Some s → AreAlike (have_opposite_rows b a) r s → (s : Row) × (row_of_lit f ≡ Some s) × AreAlike (have_opposite_rows l.atom f.atom) r s
    with_atoms a b s p q k alike =
        (s, ap₂ {A = Atom} {B = Bool} row_of_atom p sign ∙ k, subst (λ c. AreAlike (have_opposite_rows c f.atom) r s) (sym q) (subst (λ c. AreAlike (have_opposite_rows b c) r s) (sym p) alike))

    orders : (neg : Bool) (x y z w : List Mono) → agree x y z w ≡ true → (t : Row) → row_of_atom (MagLt z w) neg ≡ Some t → (s : Row) × (row_of_atom (MagLt x y) neg ≡ Some s) × AreAlike false t s
    orders true x y z w c t k =
        let is : row AtLeast (plus z ++ minus w) ≡ t = same_Some (row AtLeast (plus z ++ minus w)) t k in
        (row AtLeast (plus x ++ minus y), refl, subst (λ u. AreAlike false u (row AtLeast (plus x ++ minus y))) is (record { sense = refl; form = λ u. same_form x y z w (equal_of_agree x y z w c) u; sign = λ b. absurd (true≢false (sym b)) }))
    orders false x y z w c t k =
        let is : row More (plus w ++ minus z) ≡ t = same_Some (row More (plus w ++ minus z)) t k in (
          row More (plus y ++ minus x),
          refl,
          subst (λ u. AreAlike false u (row More (plus y ++ minus x))) is (record {
            sense = refl;
            form = λ u. same_form y x w z (λ v. let q = equal_of_agree x y z w c v in omega (arith, q)) u;
            sign = λ b. absurd (true≢false (sym b));
          }),
        )

    atoms : (IsMagEq l.atom ⊎ IsMagLt l.atom) ⊎ IsDiagram l.atom → same_atom f.atom l.atom ≡ true → (s : Row) × (row_of_lit f ≡ Some s) × AreAlike (have_opposite_rows l.atom f.atom) r s
    atoms (inl (inl p)) k =
        let q = equation f.atom p.0 p.1 (ap (same_atom f.atom) (sym p.2) ∙ k) in
        let is : row (cond l.neg Not Zero) (plus p.0 ++ minus p.1) ≡ r = same_Some (row (cond l.neg Not Zero) (plus p.0 ++ minus p.1)) r (sym (ap (λ a. row_of_atom a l.neg) p.2) ∙ e) in
        with_atoms (MagEq q.0 q.1) (MagEq p.0 p.1) (row (cond l.neg Not Zero) (plus q.0 ++ minus q.1)) q.2 p.2 refl
        (subst (λ u. AreAlike (not (have_one_form p.0 p.1 q.0 q.1)) u (row (cond l.neg Not Zero) (plus q.0 ++ minus q.1))) is (equation_rows l.neg q.0 q.1 p.0 p.1 q.3))
    atoms (inl (inr p)) k =
        let q = order f.atom p.0 p.1 (ap (same_atom f.atom) (sym p.2) ∙ k) in
        let o = orders l.neg q.0 q.1 p.0 p.1 q.3 r (sym (ap (λ a. row_of_atom a l.neg) p.2) ∙ e) in
        with_atoms (MagLt q.0 q.1) (MagLt p.0 p.1) o.0 q.2 p.2 o.1 o.2
    atoms (inr d) k = absurd (none-some r (sym (d.no_row l.neg) ∙ e))
