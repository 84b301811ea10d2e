-- Values of sums, of forms and of literals, where terms that are one term have one value and those
-- that are 0 have 0.
use Rattle.std.proofs.Common.{◌≡◌, ℕ, ◌+◌, ◌<◌, ◌≤◌, List, [], ◌∷◌, ◌++◌, map, refl, sym, ap, ap₂, ◌∙◌, subst, arith, Some, None, Bool, true, false, not, cond, ◌&&◌, ◌||◌, true≢false, eqb, eq-eqb, ◌⊎◌, inl, inr, ltb-true, lt-ltb, eqb-true}
use Rattle.std.specs.Prelude.{filter, nat_lt}
use Rattle.std.specs.List.{list_any}
use Rattle.std.proofs.lemmas.List.{map-append}
use Rattle.std.proofs.lemmas.List.Elements.{filter-append}
use Rattle.std.proofs.Math.IntN.{pos-*ℤ-pos}
use Rattle.std.proofs.lemmas.Int.{ints}
use Rattle.std.proofs.lemmas.Bool.Decides.{nat_tests}
use Rattle.std.proofs.lemmas.Bool.{or_cases, cases_Bool}
use Rattle.std.proofs.lemmas.Option.{none-some}
use lib.IntN.{ℤ, pos, ◌+ℤ◌, ◌-ℤ◌, ◌*ℤ◌, neg_ℤ, *ℤ-zero}
use lib.Signed.{◌≤ℤ◌, ◌<ℤ◌}
use Rattle.e_literal.specs.declared.object.Term.{Term}
use Rattle.e_literal.specs.declared.object.Mono.{Mono}
use Rattle.e_literal.specs.declared.literal.Lit.{Lit}
use Rattle.e_literal.specs.declared.literal.Atom.{Atom}
use Rattle.e_literal.specs.declared.literal.Atom.TheVariants.{On, OnC, Inside, Center, Between, Same, MeetLL, MeetLC, MeetCC, EqP, EqL, EqC, MagEq, MagLt}
use Rattle.e_literal.specs.Literal.{kind_of_atom}
use Rattle.e_literal.specs.Same.{canonical, term_eq, one_term, coeff_of, agree, same_atom, same_neg, same_lit, EqualNormal}
use Rattle.e_literal.specs.Truth.{value_of, metric_atom_holds, holds}
use Rattle.e_literal.specs.Rows.{Row, Zero, AtLeast, More, Not, Summands, coefficient, times, is_degenerate, normal_summands, row, plus, minus, negative, row_of_atom, row_of_lit}
use Rattle.e_literal.specs.Solution.{form_value, IsSo, values_for_all}
use Rattle.e_literal.proofs.Arith.{sums, neg_mul}
use Rattle.e_literal.proofs.Terms.{term_eq_is, equal_terms}
use Rattle.e_literal.proofs.Agreeing.{agree_equal}
use Rattle.e_literal.proofs.CanonicalTerms.{canonical_twice, one_term_is, one_term_of, same_degenerate}
use Rattle.e_literal.proofs.Refutes.{form_value_same}
use Rattle.e_literal.proofs.Booleans.{or_not_left, or_not_right, and_left, and_right, same_bool, same_neg_is}

-- ---- forms

pub form-append : (f g : Summands) (v : Term → ℕ) → form_value (f ++ g) v ≡ form_value f v +ℤ form_value g v
form-append [] g v = omega (arith, sums)
form-append (p ∷ ps) g v = omega (arith, sums, form-append ps g v)

pub form-negative : (f : Summands) (v : Term → ℕ) → form_value (negative f) v ≡ neg_ℤ (form_value f v)
form-negative [] v = refl
form-negative (p ∷ ps) v = omega (arith, sums, neg_mul p.0 (pos (v p.1)), form-negative ps v)

form-plus : (ms : List Mono) (v : Term → ℕ) → form_value (plus ms) v ≡ pos (value_of v ms)
form-plus [] v = refl
form-plus (m ∷ ms) v = omega (arith, sums, pos-*ℤ-pos m.coeff (v m.term), form-plus ms v)

form-minus : (ms : List Mono) (v : Term → ℕ) → form_value (minus ms) v ≡ neg_ℤ (pos (value_of v ms))
form-minus [] v = refl
form-minus (m ∷ ms) v = omega (arith, sums, neg_mul (pos m.coeff) (pos (v m.term)), pos-*ℤ-pos m.coeff (v m.term), form-minus ms v)

-- the form of x - y
pub difference : (x y : List Mono) (v : Term → ℕ) → form_value (plus x ++ minus y) v ≡ pos (value_of v x) -ℤ pos (value_of v y)
difference x y v = omega (arith, sums, form-append (plus x) (minus y) v, form-plus x v, form-minus y v)

-- a form has the value of its normal form
pub normal_value : (form : Summands) (w : Term → ℕ) → form_value (normal_summands form) w ≡ form_value form (values_for_all w)
normal_value [] w = refl
normal_value (p ∷ ps) w = by (is_degenerate p.1) (normal_value ps w)
  where
    rest : Summands
    rest = filter (λ (q : ℤ × Term). not (is_degenerate q.1)) ps

    by : (b : Bool) → form_value (normal_summands ps) w ≡ form_value ps (values_for_all w) → form_value (map (λ (q : ℤ × Term). times q.0 (canonical q.1)) (cond (not b) (p ∷ rest) rest)) w
        ≡ p.0 *ℤ pos (cond b 0 (w (canonical p.1))) +ℤ form_value ps (values_for_all w)
    by true ih = omega (arith, sums, *ℤ-zero p.0, ih)
    by false ih = ap (λ z. p.0 *ℤ pos (w (canonical p.1)) +ℤ z) ih

-- ---- coefficients of normal forms

pub coefficient-append : (f g : Summands) (t : Term) → coefficient (f ++ g) t ≡ coefficient f t +ℤ coefficient g t
coefficient-append [] g t = omega (arith, sums)
coefficient-append (p ∷ ps) g t = omega (arith, sums, coefficient-append ps g t)

normal-append : (f g : Summands) → normal_summands (f ++ g) ≡ normal_summands f ++ normal_summands g
normal-append f g =
    ap (map (λ (p : ℤ × Term). times p.0 (canonical p.1))) (filter-append (λ (p : ℤ × Term). not (is_degenerate p.1)) f g)
    ∙ map-append (λ (p : ℤ × Term). times p.0 (canonical p.1)) (filter (λ (p : ℤ × Term). not (is_degenerate p.1)) f) (filter (λ (p : ℤ × Term). not (is_degenerate p.1)) g)

-- the term is written as in a normal form, and is none of those that are 0
abbrev pub is_normal : Term → Bool
is_normal t = term_eq (canonical t) t && not (is_degenerate t)

-- a monomial counts at a normal term where it has that term
counts : (s t : Term) (z : ℤ) → cond (not (is_degenerate s)) (cond (term_eq (canonical s) t) z (pos 0)) (pos 0) ≡ cond (is_normal t) (cond (one_term s t) z (pos 0)) (pos 0)
counts s t z = elim (cases_Bool (term_eq (canonical s) t)) [
  | inl e ↦
      (let is : canonical s ≡ t = term_eq_is (canonical s) t e in
      let own : canonical t ≡ t = ap canonical (sym is) ∙ canonical_twice s ∙ is in
      let one : canonical s ≡ canonical t = is ∙ sym own in
      ap (λ b. cond (not (is_degenerate s)) (cond b z (pos 0)) (pos 0)) e
      ∙ ap (λ b. cond (not b) z (pos 0)) (same_degenerate s t one)
      ∙ sym (ap (λ b. cond (b && not (is_degenerate t)) (cond (one_term s t) z (pos 0)) (pos 0)) (equal_terms (canonical t) t own)
      ∙ ap (λ b. cond (not (is_degenerate t)) (cond b z (pos 0)) (pos 0)) (one_term_of s t one)))
  | inr n ↦
      ap (λ b. cond (not (is_degenerate s)) (cond b z (pos 0)) (pos 0)) n ∙ none (not (is_degenerate s))
      ∙ elim (cases_Bool (one_term s t)) [
        | inl o ↦ elim (cases_Bool (term_eq (canonical t) t)) [
          | inl own ↦ absurd (true≢false (sym (equal_terms (canonical s) t (one_term_is s t o ∙ term_eq_is (canonical t) t own)) ∙ n))
          | inr m ↦ sym (ap (λ b. cond (b && not (is_degenerate t)) (cond (one_term s t) z (pos 0)) (pos 0)) m)
        ]
        | inr o ↦ sym (ap (λ b. cond (is_normal t) (cond b z (pos 0)) (pos 0)) o ∙ none (is_normal t))
      ]
]
  where
    none : (b : Bool) → cond b (pos 0) (pos 0) ≡ pos 0
    none true = refl
    none false = refl

-- one summand more
normal_step : (n : ℤ) (s : Term) (ps : Summands) (t : Term)
    → coefficient (normal_summands (times n s ∷ ps)) t ≡ cond (not (is_degenerate s)) (cond (term_eq (canonical s) t) n (pos 0)) (pos 0) +ℤ coefficient (normal_summands ps) t
normal_step n s ps t = by (not (is_degenerate s))
  where
    rest : Summands
    rest = filter (λ (q : ℤ × Term). not (is_degenerate q.1)) ps

    by : (b : Bool) → coefficient (map (λ (q : ℤ × Term). times q.0 (canonical q.1)) (cond b (times n s ∷ rest) rest)) t
        ≡ cond b (cond (term_eq (canonical s) t) n (pos 0)) (pos 0) +ℤ coefficient (normal_summands ps) t
    by true = refl
    by false = omega (arith, sums)

normal-plus : (ms : List Mono) (t : Term) → coefficient (normal_summands (plus ms)) t ≡ cond (is_normal t) (pos (coeff_of ms t)) (pos 0)
normal-plus [] t = none (is_normal t)
  where
    none : (b : Bool) → pos 0 ≡ cond b (pos 0) (pos 0)
    none true = refl
    none false = refl
normal-plus (m ∷ ms) t =
    normal_step (pos m.coeff) m.term (plus ms) t
    ∙ ap (λ z. z +ℤ coefficient (normal_summands (plus ms)) t) (counts m.term t (pos m.coeff))
    ∙ ap (λ z. cond (is_normal t) (cond (one_term m.term t) (pos m.coeff) (pos 0)) (pos 0) +ℤ z) (normal-plus ms t)
    ∙ by (is_normal t) (one_term m.term t)
  where
    by : (a b : Bool) → cond a (cond b (pos m.coeff) (pos 0)) (pos 0) +ℤ cond a (pos (coeff_of ms t)) (pos 0) ≡ cond a (pos (cond b m.coeff 0 + coeff_of ms t)) (pos 0)
    by true true = omega (arith, sums)
    by true false = omega (arith, sums)
    by false b = refl

normal-minus : (ms : List Mono) (t : Term) → coefficient (normal_summands (minus ms)) t ≡ cond (is_normal t) (neg_ℤ (pos (coeff_of ms t))) (pos 0)
normal-minus [] t = none (is_normal t)
  where
    none : (b : Bool) → pos 0 ≡ cond b (pos 0) (pos 0)
    none true = refl
    none false = refl
normal-minus (m ∷ ms) t =
    normal_step (neg_ℤ (pos m.coeff)) m.term (minus ms) t
    ∙ ap (λ z. z +ℤ coefficient (normal_summands (minus ms)) t) (counts m.term t (neg_ℤ (pos m.coeff)))
    ∙ ap (λ z. cond (is_normal t) (cond (one_term m.term t) (neg_ℤ (pos m.coeff)) (pos 0)) (pos 0) +ℤ z) (normal-minus ms t)
    ∙ by (is_normal t) (one_term m.term t)
  where
    by : (a b : Bool) → cond a (cond b (neg_ℤ (pos m.coeff)) (pos 0)) (pos 0) +ℤ cond a (neg_ℤ (pos (coeff_of ms t))) (pos 0) ≡ cond a (neg_ℤ (pos (cond b m.coeff 0 + coeff_of ms t))) (pos 0)
    by true true = omega (arith, sums)
    by true false = omega (arith, sums)
    by false b = refl

-- the coefficient of a term in the row of x - y
pub normal_coefficient : (x y : List Mono) (t : Term) → coefficient (normal_summands (plus x ++ minus y)) t ≡ cond (is_normal t) (pos (coeff_of x t) -ℤ pos (coeff_of y t)) (pos 0)
normal_coefficient x y t =
    ap (λ f. coefficient f t) (normal-append (plus x) (minus y))
    ∙ coefficient-append (normal_summands (plus x)) (normal_summands (minus y)) t
    ∙ ap₂ {A = ℤ} {B = ℤ} (λ a b. a +ℤ b) (normal-plus x t) (normal-minus y t)
    ∙ by (is_normal t)
  where
    by : (b : Bool) → cond b (pos (coeff_of x t)) (pos 0) +ℤ cond b (neg_ℤ (pos (coeff_of y t))) (pos 0) ≡ cond b (pos (coeff_of x t) -ℤ pos (coeff_of y t)) (pos 0)
    by true = omega (arith, sums)
    by false = refl

-- a form has no term but those that it is written with, in their normal form
pub normal_none : (form : Summands) (u : Term) → is_normal u ≡ false ⊎ list_any (λ (p : ℤ × Term). one_term p.1 u) form ≡ false → coefficient (normal_summands form) u ≡ pos 0
normal_none [] u h = refl
normal_none (p ∷ ps) u h =
    normal_step p.0 p.1 ps u
    ∙ ap₂ {A = ℤ} {B = ℤ} (λ a b. a +ℤ b) (counts p.1 u p.0 ∙ here h) (normal_none ps u (later h))
  where
    none : (b : Bool) → cond b (pos 0) (pos 0) ≡ pos 0
    none true = refl
    none false = refl

    rest : Bool
    rest = list_any (λ (q : ℤ × Term). one_term q.1 u) ps

    here : is_normal u ≡ false ⊎ list_any (λ (q : ℤ × Term). one_term q.1 u) (p ∷ ps) ≡ false → cond (is_normal u) (cond (one_term p.1 u) p.0 (pos 0)) (pos 0) ≡ pos 0
    here (inl n) = ap (λ b. cond b (cond (one_term p.1 u) p.0 (pos 0)) (pos 0)) n
    here (inr n) = ap (λ b. cond (is_normal u) (cond b p.0 (pos 0)) (pos 0)) (or_not_left (one_term p.1 u) rest n) ∙ none (is_normal u)

    later : is_normal u ≡ false ⊎ list_any (λ (q : ℤ × Term). one_term q.1 u) (p ∷ ps) ≡ false → is_normal u ≡ false ⊎ rest ≡ false
    later (inl n) = inl n
    later (inr n) = inr (or_not_right (one_term p.1 u) rest n)

-- equal normal forms give one form
pub same_form : (x y z w : List Mono) → EqualNormal x y z w → (t : Term)
    → coefficient (normal_summands (plus x ++ minus y)) t ≡ coefficient (normal_summands (plus z ++ minus w)) t
same_form x y z w h t =
    normal_coefficient x y t
    ∙ ap (λ n. cond (is_normal t) n (pos 0)) (let e = h t in omega (arith, ints, e))
    ∙ sym (normal_coefficient z w t)

-- ---- literals that are the same

pub same_difference : (x y z w : List Mono) (u : Term → ℕ) → agree x y z w ≡ true
    → value_of (values_for_all u) x + value_of (values_for_all u) w ≡ value_of (values_for_all u) z + value_of (values_for_all u) y
same_difference x y z w u h =
    let v = values_for_all u in
    let e : form_value (plus x ++ minus y) v ≡ form_value (plus z ++ minus w) v =
    sym (normal_value (plus x ++ minus y) u)
    ∙ form_value_same (normal_summands (plus x ++ minus y)) (normal_summands (plus z ++ minus w)) u (same_form x y z w ((agree_equal x y z w).0 h))
    ∙ normal_value (plus z ++ minus w) u in
    let k = sym (difference x y v) ∙ e ∙ difference z w v in
    omega (arith, ints, k)

abbrev pub IsMagEq : Atom → Type 0
IsMagEq a = (x y : List Mono) × (a ≡ MagEq x y)

abbrev pub IsMagLt : Atom → Type 0
IsMagLt a = (x y : List Mono) × (a ≡ MagLt x y)

-- an atom of diagrams says nothing of values
pub record IsDiagram (a : Atom) : Type 0 where
  pub quiet : (v : Term → ℕ) (neg : Bool) → metric_atom_holds v a neg ≡ true
  pub no_kind : kind_of_atom a ≡ None
  pub no_row : (neg : Bool) → row_of_atom a neg ≡ None

pub split : (a : Atom) → (IsMagEq a ⊎ IsMagLt a) ⊎ IsDiagram a
split (On x y) = inr (record { quiet = λ v neg. refl; no_kind = refl; no_row = λ neg. refl })
split (OnC x y) = inr (record { quiet = λ v neg. refl; no_kind = refl; no_row = λ neg. refl })
split (Inside x y) = inr (record { quiet = λ v neg. refl; no_kind = refl; no_row = λ neg. refl })
split (Center x y) = inr (record { quiet = λ v neg. refl; no_kind = refl; no_row = λ neg. refl })
split (Between x y z) = inr (record { quiet = λ v neg. refl; no_kind = refl; no_row = λ neg. refl })
split (Same x y z) = inr (record { quiet = λ v neg. refl; no_kind = refl; no_row = λ neg. refl })
split (MeetLL x y) = inr (record { quiet = λ v neg. refl; no_kind = refl; no_row = λ neg. refl })
split (MeetLC x y) = inr (record { quiet = λ v neg. refl; no_kind = refl; no_row = λ neg. refl })
split (MeetCC x y) = inr (record { quiet = λ v neg. refl; no_kind = refl; no_row = λ neg. refl })
split (EqP x y) = inr (record { quiet = λ v neg. refl; no_kind = refl; no_row = λ neg. refl })
split (EqL x y) = inr (record { quiet = λ v neg. refl; no_kind = refl; no_row = λ neg. refl })
split (EqC x y) = inr (record { quiet = λ v neg. refl; no_kind = refl; no_row = λ neg. refl })
split (MagEq x y) = inl (inl (x, y, refl))
split (MagLt x y) = inl (inr (x, y, refl))

same_as_equation : (a : Atom) (z w : List Mono) → same_atom a (MagEq z w) ≡ true → (x y : List Mono) × (a ≡ MagEq x y) × ((agree x y z w || agree x y w z) ≡ true)
same_as_equation (MagEq x y) z w h = (x, y, refl, h)
same_as_equation (On x y) z w h = absurd (true≢false (sym h))
same_as_equation (OnC x y) z w h = absurd (true≢false (sym h))
same_as_equation (Inside x y) z w h = absurd (true≢false (sym h))
same_as_equation (Center x y) z w h = absurd (true≢false (sym h))
same_as_equation (Between x y u) z w h = absurd (true≢false (sym h))
same_as_equation (Same x y u) z w h = absurd (true≢false (sym h))
same_as_equation (MeetLL x y) z w h = absurd (true≢false (sym h))
same_as_equation (MeetLC x y) z w h = absurd (true≢false (sym h))
same_as_equation (MeetCC x y) z w h = absurd (true≢false (sym h))
same_as_equation (EqP x y) z w h = absurd (true≢false (sym h))
same_as_equation (EqL x y) z w h = absurd (true≢false (sym h))
same_as_equation (EqC x y) z w h = absurd (true≢false (sym h))
same_as_equation (MagLt x y) z w h = absurd (true≢false (sym h))

same_as_order : (a : Atom) (z w : List Mono) → same_atom a (MagLt z w) ≡ true → (x y : List Mono) × (a ≡ MagLt x y) × (agree x y z w ≡ true)
same_as_order (MagLt x y) z w h = (x, y, refl, h)
same_as_order (On x y) z w h = absurd (true≢false (sym h))
same_as_order (OnC x y) z w h = absurd (true≢false (sym h))
same_as_order (Inside x y) z w h = absurd (true≢false (sym h))
same_as_order (Center x y) z w h = absurd (true≢false (sym h))
same_as_order (Between x y u) z w h = absurd (true≢false (sym h))
same_as_order (Same x y u) z w h = absurd (true≢false (sym h))
same_as_order (MeetLL x y) z w h = absurd (true≢false (sym h))
same_as_order (MeetLC x y) z w h = absurd (true≢false (sym h))
same_as_order (MeetCC x y) z w h = absurd (true≢false (sym h))
same_as_order (EqP x y) z w h = absurd (true≢false (sym h))
same_as_order (EqL x y) z w h = absurd (true≢false (sym h))
same_as_order (EqC x y) z w h = absurd (true≢false (sym h))
same_as_order (MagEq x y) z w h = absurd (true≢false (sym h))

eqb_moved : (a b c d : ℕ) → a + d ≡ c + b → eqb a b ≡ eqb c d
eqb_moved a b c d e = same_bool (eqb a b) (eqb c d) (λ h. eq-eqb c d (omega (arith, e, eqb-true a b h))) (λ h. eq-eqb a b (omega (arith, e, eqb-true c d h)))

eqb_crossed : (a b c d : ℕ) → a + c ≡ d + b → eqb a b ≡ eqb c d
eqb_crossed a b c d e = same_bool (eqb a b) (eqb c d) (λ h. eq-eqb c d (omega (arith, e, eqb-true a b h))) (λ h. eq-eqb a b (omega (arith, e, eqb-true c d h)))

lt_moved : (a b c d : ℕ) → a + d ≡ c + b → nat_lt a b ≡ nat_lt c d
lt_moved a b c d e = grind (arith, nat_tests)

-- what is the same as a true literal is true
pub holds_same : (f l : Lit) (u : Term → ℕ) → same_lit f l ≡ true → holds (values_for_all u) f ≡ true → holds (values_for_all u) l ≡ true
holds_same f l u h g =
    let sign : f.neg ≡ l.neg = same_neg_is f.neg l.neg (and_left (same_neg f.neg l.neg) (same_atom f.atom l.atom) h) in
    atoms (split l.atom) (and_right (same_neg f.neg l.neg) (same_atom f.atom l.atom) h) (sym (ap (metric_atom_holds (values_for_all u) f.atom) sign) ∙ g)
  where
    v : Term → ℕ
    v = values_for_all u

    equations : (x y z w : List Mono) → (agree x y z w || agree x y w z) ≡ true → metric_atom_holds v (MagEq x y) l.neg ≡ metric_atom_holds v (MagEq z w) l.neg
    equations x y z w k =
        let e : eqb (value_of v x) (value_of v y) ≡ eqb (value_of v z) (value_of v w) = elim (or_cases (agree x y z w) (agree x y w z) k) [
          | inl c ↦ eqb_moved (value_of v x) (value_of v y) (value_of v z) (value_of v w) (same_difference x y z w u c)
          | inr c ↦ eqb_crossed (value_of v x) (value_of v y) (value_of v z) (value_of v w) (same_difference x y w z u c)
        ] in
        ap (λ b. cond l.neg (not b) b) e

    orders : (x y z w : List Mono) → agree x y z w ≡ true → metric_atom_holds v (MagLt x y) l.neg ≡ metric_atom_holds v (MagLt z w) l.neg
    orders x y z w c = ap (λ b. cond l.neg (not b) b) (lt_moved (value_of v x) (value_of v y) (value_of v z) (value_of v w) (same_difference x y z w u c))

    atoms : (IsMagEq l.atom ⊎ IsMagLt l.atom) ⊎ IsDiagram l.atom → same_atom f.atom l.atom ≡ true
        → metric_atom_holds v f.atom l.neg ≡ true → metric_atom_holds v l.atom l.neg ≡ true
    atoms (inl (inl p)) k t =
        let q = same_as_equation f.atom p.0 p.1 (ap (same_atom f.atom) (sym p.2) ∙ k) in
        ap (λ a. metric_atom_holds v a l.neg) p.2 ∙ sym (equations q.0 q.1 p.0 p.1 q.3) ∙ sym (ap (λ a. metric_atom_holds v a l.neg) q.2) ∙ t
    atoms (inl (inr p)) k t =
        let q = same_as_order f.atom p.0 p.1 (ap (same_atom f.atom) (sym p.2) ∙ k) in
        ap (λ a. metric_atom_holds v a l.neg) p.2 ∙ sym (orders q.0 q.1 p.0 p.1 q.3) ∙ sym (ap (λ a. metric_atom_holds v a l.neg) q.2) ∙ t
    atoms (inr d) k t = d.quiet v l.neg

-- ---- rows of literals

eqb_apart : (a b : ℕ) → not (eqb a b) ≡ true → a ≡ b → ⊥
eqb_apart a b h e = true≢false (sym h ∙ ap not (eq-eqb a b e))

lt_not : (a b : ℕ) → not (nat_lt a b) ≡ true → b ≤ a
lt_not a b h = grind (arith, nat_tests)

not_lt_of : (a b : ℕ) → b ≤ a → not (nat_lt a b) ≡ true
not_lt_of a b h = grind (arith, nat_tests)

not_eqb_of : (a b : ℕ) → (a ≡ b → ⊥) → not (eqb a b) ≡ true
not_eqb_of a b h = elim (cases_Bool (eqb a b)) [
  | inl e ↦ absurd (h (eqb-true a b e))
  | inr e ↦ ap not e
]

-- what the row of an atom says is so exactly where the atom is true
abbrev IsSoWhere : (Term → ℕ) → Atom → Bool → Row → Type 0
IsSoWhere w a neg r = (metric_atom_holds (values_for_all w) a neg ≡ true → IsSo r.sense (form_value r.form w)) × (IsSo r.sense (form_value r.form w) → metric_atom_holds (values_for_all w) a neg ≡ true)

row_value : (w : Term → ℕ) (x y : List Mono) → form_value (normal_summands (plus x ++ minus y)) w ≡ pos (value_of (values_for_all w) x) -ℤ pos (value_of (values_for_all w) y)
row_value w x y = normal_value (plus x ++ minus y) w ∙ difference x y (values_for_all w)

equation_row : (w : Term → ℕ) (x y : List Mono) (neg : Bool) → IsSoWhere w (MagEq x y) neg (row (cond neg Not Zero) (plus x ++ minus y))
equation_row w x y true = (
  λ t z. eqb_apart (value_of (values_for_all w) x) (value_of (values_for_all w) y) t (let d = sym (row_value w x y) ∙ z in omega (arith, ints, d)),
  λ n. not_eqb_of (value_of (values_for_all w) x) (value_of (values_for_all w) y) (λ e. n (row_value w x y ∙ omega (arith, ints, e))),
)
equation_row w x y false = (
  λ t. row_value w x y ∙ (let e = eqb-true (value_of (values_for_all w) x) (value_of (values_for_all w) y) t in omega (arith, ints, e)),
  λ z. eq-eqb (value_of (values_for_all w) x) (value_of (values_for_all w) y) (let d = sym (row_value w x y) ∙ z in omega (arith, ints, d)),
)

order_row : (w : Term → ℕ) (x y : List Mono) → IsSoWhere w (MagLt x y) false (row More (plus y ++ minus x))
order_row w x y = (
  λ t. subst (λ z. pos 0 <ℤ z) (sym (row_value w y x)) (let l = ltb-true (value_of (values_for_all w) x) (value_of (values_for_all w) y) t in omega (arith, sums, l)),
  λ g. lt-ltb (value_of (values_for_all w) x) (value_of (values_for_all w) y) (let d = row_value w y x in omega (arith, sums, g, d)),
)

not_order_row : (w : Term → ℕ) (x y : List Mono) → IsSoWhere w (MagLt x y) true (row AtLeast (plus x ++ minus y))
not_order_row w x y = (
  λ t. subst (λ z. pos 0 ≤ℤ z) (sym (row_value w x y)) (let l = lt_not (value_of (values_for_all w) x) (value_of (values_for_all w) y) t in omega (arith, sums, l)),
  λ g. not_lt_of (value_of (values_for_all w) x) (value_of (values_for_all w) y) (let d = row_value w x y in omega (arith, sums, g, d)),
)

row_where : (w : Term → ℕ) (a : Atom) (neg : Bool) (r : Row) → row_of_atom a neg ≡ Some r → (IsMagEq a ⊎ IsMagLt a) ⊎ IsDiagram a → IsSoWhere w a neg r
row_where w a neg r e (inl (inl p)) =
    let k : Some (row (cond neg Not Zero) (plus p.0 ++ minus p.1)) ≡ Some r = sym (ap (λ b. row_of_atom b neg) p.2) ∙ e in
    let same : row (cond neg Not Zero) (plus p.0 ++ minus p.1) ≡ r = cc in
    subst (λ b. IsSoWhere w b neg r) (sym p.2) (subst (IsSoWhere w (MagEq p.0 p.1) neg) same (equation_row w p.0 p.1 neg))
row_where w a true r e (inl (inr p)) =
    let k : Some (row AtLeast (plus p.0 ++ minus p.1)) ≡ Some r = sym (ap (λ b. row_of_atom b true) p.2) ∙ e in
    let same : row AtLeast (plus p.0 ++ minus p.1) ≡ r = cc in
    subst (λ b. IsSoWhere w b true r) (sym p.2) (subst (IsSoWhere w (MagLt p.0 p.1) true) same (not_order_row w p.0 p.1))
row_where w a false r e (inl (inr p)) =
    let k : Some (row More (plus p.1 ++ minus p.0)) ≡ Some r = sym (ap (λ b. row_of_atom b false) p.2) ∙ e in
    let same : row More (plus p.1 ++ minus p.0) ≡ r = cc in
    subst (λ b. IsSoWhere w b false r) (sym p.2) (subst (IsSoWhere w (MagLt p.0 p.1) false) same (order_row w p.0 p.1))
row_where w a neg r e (inr d) = absurd (none-some r (sym (d.no_row neg) ∙ e))

-- the row of a true literal is so
pub so_of_holds : (l : Lit) (r : Row) (w : Term → ℕ) → row_of_lit l ≡ Some r → holds (values_for_all w) l ≡ true → IsSo r.sense (form_value r.form w)
so_of_holds l r w e h = (row_where w l.atom l.neg r e (split l.atom)).0 h

-- a literal whose row is so is true
pub holds_of_so : (l : Lit) (r : Row) (w : Term → ℕ) → row_of_lit l ≡ Some r → IsSo r.sense (form_value r.form w) → holds (values_for_all w) l ≡ true
holds_of_so l r w e h = (row_where w l.atom l.neg r e (split l.atom)).1 h

-- ---- coefficients of negatives

pub coefficient_negative : (f : Summands) (u : Term) → coefficient (negative f) u ≡ neg_ℤ (coefficient f u)
coefficient_negative [] u = refl
coefficient_negative (p ∷ ps) u = by (term_eq p.1 u) (coefficient_negative ps u)
  where
    by : (b : Bool) → coefficient (negative ps) u ≡ neg_ℤ (coefficient ps u) → cond b (neg_ℤ p.0) (pos 0) +ℤ coefficient (negative ps) u ≡ neg_ℤ (cond b p.0 (pos 0) +ℤ coefficient ps u)
    by true ih = omega (arith, sums, ih)
    by false ih = omega (arith, sums, ih)
