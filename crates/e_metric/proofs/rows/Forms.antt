-- The difference of two sums: each term once, with the coefficient that the sums give it.
use Rattle.std.proofs.Common.{◌≡◌, ◌≢◌, ℕ, zero, suc, ◌+◌, ◌*◌, ◌^◌, ◌≤◌, List, [], ◌∷◌, ◌++◌, length, refl, sym, ap, ◌∙◌, arith, Bool, true, false, cond, not, ◌||◌, ◌&&◌, true≢false, ◌⊎◌, inl, inr, subst, length-append}
use Rattle.std.specs.Prelude.{nat_le, unsigned_abs, ◌-ℤ◌}
use Rattle.std.specs.List.{list_all}
use Rattle.std.specs.Ordering.{int_eq}
use Rattle.std.proofs.lemmas.Bool.Decides.{nat_tests}
use Rattle.std.proofs.lemmas.List.Folds.{list_any-append}
use Rattle.std.proofs.lemmas.Bool.{and_from, or_parts, or_left, or_right, not-true}
use lib.IntN.{ℤ, pos, ◌+ℤ◌}
use borrow.Author.Differences.{abs_is}
use Rattle.e_literal.specs.declared.object.Mono.{Mono}
use Rattle.e_literal.specs.declared.object.Term.{Term}
use Rattle.e_literal.specs.Same.{canonical, term_eq, one_term, coeff_of}
use Rattle.e_literal.specs.Rows.{Summands, coefficient, is_degenerate, normal_summands, plus, minus}
use Rattle.e_literal.specs.declared.object.Kind.{Kind}
use Rattle.e_literal.specs.Literal.{kind_of_term, kind_of_sums}
use Rattle.e_literal.specs.declared.literal.Atom.{Atom}
use Rattle.e_literal.specs.declared.literal.Atom.TheVariants.{MagEq, MagLt}
use Rattle.e_literal.specs.WellFormed.{same_kind, is_bounded_coefficient, are_well_formed_sums, is_well_formed_atom}
use Rattle.e_fraction.specs.Distinct.{have_distinct_terms}
use Rattle.e_fraction.specs.Limits.{has_small_coefficients}
use Rattle.e_literal.proofs.Arith.{sums, zero_is, not_zero}
use Rattle.e_literal.proofs.Terms.{term_eq_is, term_eq_same, equal_terms, term_eq_turned}
use Rattle.e_literal.proofs.CanonicalTerms.{canonical_twice}
use Rattle.e_literal.proofs.Valued.{is_normal, normal_coefficient}
use Rattle.e_literal.proofs.Booleans.{and_left, and_right}
use Rattle.e_metric.specs.inner.Differences.{coefficient_in_difference, occurs_in, is_passed, with_summand, with_summands, difference_form}
use Rattle.e_metric.specs.AgreeingRows.{has_no_zero}

-- ---- lists

pub none_more : {X : Type 0} (xs : List X) → xs ++ [] ≡ xs
none_more [] = refl
none_more (x ∷ xs) = ap (λ ys. x ∷ ys) (none_more xs)

-- ---- normal terms

normal_is : (t : Term) → is_normal t ≡ true → (canonical t ≡ t) × (is_degenerate t ≡ false)
normal_is t h = (
  term_eq_is (canonical t) t (and_left (term_eq (canonical t) t) (not (is_degenerate t)) h),
  not-true (is_degenerate t) (and_right (term_eq (canonical t) t) (not (is_degenerate t)) h),
)

is_normal_of : (t : Term) → canonical t ≡ t → is_degenerate t ≡ false → is_normal t ≡ true
is_normal_of t e d = and_from (term_eq (canonical t) t) (not (is_degenerate t)) (equal_terms (canonical t) t e) (ap not d)

-- the value where the term is normal, and 0 elsewhere
abbrev if_normal : Term → ℤ → ℤ
if_normal t z = cond (is_normal t) z (pos 0)

-- ---- the form in which each term occurs once

-- a summand has the coefficient of its term in x - y, which is not 0, and its term is normal
pub record IsSummand (x y : List Mono) (p : ℤ × Term) : Type 0 where
  pub coefficient : p.0 ≡ coefficient_in_difference x y p.1
  pub some : p.0 ≢ pos 0
  pub normal : is_normal p.1 ≡ true

abbrev pub AreSummands : List Mono → List Mono → Summands → Type 0
AreSummands x y [] = Unit {0}
AreSummands x y (p ∷ ps) = IsSummand x y p × AreSummands x y ps

pub record IsJoined (x y : List Mono) (form : Summands) : Type 0 where
  pub distinct : have_distinct_terms form ≡ true
  pub are_summands : AreSummands x y form

summands_push : (x y : List Mono) (form : Summands) (p : ℤ × Term) → AreSummands x y form → IsSummand x y p → AreSummands x y (form ++ p ∷ [])
summands_push x y [] p h k = (k, tt)
summands_push x y (q ∷ qs) p h k = (h.0, summands_push x y qs p h.1 k)

occurs_append : (f g : Summands) (t : Term) → occurs_in (f ++ g) t ≡ (occurs_in f t || occurs_in g t)
occurs_append f g t = list_any-append (λ (q : ℤ × Term). term_eq q.1 t) f g

nor : (a b : Bool) → a ≡ false → b ≡ false → (a || b) ≡ false
nor true b h k = absurd (true≢false h)
nor false b h k = k

distinct_push : (form : Summands) (n : ℤ) (t : Term) → have_distinct_terms form ≡ true → occurs_in form t ≡ false → have_distinct_terms (form ++ (n, t) ∷ []) ≡ true
distinct_push [] n t h k = refl
distinct_push (p ∷ ps) n t h k =
    (let w = or_parts (term_eq p.1 t) (occurs_in ps t) k in
    let rest = not-true (occurs_in ps p.1) (and_left (not (occurs_in ps p.1)) (have_distinct_terms ps) h) in
    let one : occurs_in (ps ++ (n, t) ∷ []) p.1 ≡ false = occurs_append ps ((n, t) ∷ []) p.1 ∙ nor (occurs_in ps p.1) (term_eq t p.1 || false) rest (nor (term_eq t p.1) false (term_eq_turned t p.1 ∙ w.0) refl) in
    and_from (not (occurs_in (ps ++ (n, t) ∷ []) p.1)) (have_distinct_terms (ps ++ (n, t) ∷ [])) (ap not one)
    (distinct_push ps n t (and_right (not (occurs_in ps p.1)) (have_distinct_terms ps) h) w.1))

joined_term : (x y : List Mono) (form : Summands) (t : Term) → canonical t ≡ t → IsJoined x y form → IsJoined x y (with_summand x y form t)
joined_term x y form t c h = by (is_passed x y form t) refl
  where
    by : (b : Bool) → is_passed x y form t ≡ b → IsJoined x y (cond b form (form ++ (coefficient_in_difference x y t, t) ∷ []))
    by true e = h
    by false e = (let w = or_parts (is_degenerate t) (occurs_in form t || int_eq (coefficient_in_difference x y t) (pos 0)) e in
        let v = or_parts (occurs_in form t) (int_eq (coefficient_in_difference x y t) (pos 0)) w.1 in
        record {
          distinct = distinct_push form (coefficient_in_difference x y t) t h.distinct v.0;
          are_summands = summands_push x y form (coefficient_in_difference x y t, t) h.are_summands (record { coefficient = refl; some = not_zero (coefficient_in_difference x y t) v.1; normal = is_normal_of t c w.0 });
        })

joined_terms : (x y : List Mono) (form : Summands) (ms : List Mono) → IsJoined x y form → IsJoined x y (with_summands x y form ms)
joined_terms x y form [] h = h
joined_terms x y form (m ∷ ms) h = joined_terms x y (with_summand x y form (canonical m.term)) ms (joined_term x y form (canonical m.term) (canonical_twice m.term) h)

pub is_joined : (x y : List Mono) → IsJoined x y (difference_form x y)
is_joined x y = joined_terms x y (with_summands x y [] x) y (joined_terms x y [] x (record { distinct = refl; are_summands = tt }))

-- ---- each term that does not cancel is there

occurs_keep : (x y : List Mono) (form : Summands) (u t : Term) → occurs_in form t ≡ true → occurs_in (with_summand x y form u) t ≡ true
occurs_keep x y form u t h = by (is_passed x y form u)
  where
    by : (b : Bool) → occurs_in (cond b form (form ++ (coefficient_in_difference x y u, u) ∷ [])) t ≡ true
    by true = h
    by false = occurs_append form ((coefficient_in_difference x y u, u) ∷ []) t ∙ or_left (occurs_in form t) (occurs_in ((coefficient_in_difference x y u, u) ∷ []) t) h

occurs_keeps : (x y : List Mono) (form : Summands) (ms : List Mono) (t : Term) → occurs_in form t ≡ true → occurs_in (with_summands x y form ms) t ≡ true
occurs_keeps x y form [] t h = h
occurs_keeps x y form (m ∷ ms) t h = occurs_keeps x y (with_summand x y form (canonical m.term)) ms t (occurs_keep x y form (canonical m.term) t h)

occurs_here : (x y : List Mono) (form : Summands) (t : Term) → is_degenerate t ≡ false → coefficient_in_difference x y t ≢ pos 0 → occurs_in (with_summand x y form t) t ≡ true
occurs_here x y form t d n = by (occurs_in form t) (int_eq (coefficient_in_difference x y t) (pos 0)) refl refl
  where
    by : (a b : Bool) → occurs_in form t ≡ a → int_eq (coefficient_in_difference x y t) (pos 0) ≡ b → occurs_in (with_summand x y form t) t ≡ true
    by true b e f = occurs_keep x y form t t e
    by false true e f = absurd (n (zero_is (coefficient_in_difference x y t) f))
    by false false e f =
        ap (λ k. occurs_in (cond k form (form ++ (coefficient_in_difference x y t, t) ∷ [])) t) (nor (is_degenerate t) (occurs_in form t || int_eq (coefficient_in_difference x y t) (pos 0)) d (nor (occurs_in form t) (int_eq (coefficient_in_difference x y t) (pos 0)) e f))
        ∙ occurs_append form ((coefficient_in_difference x y t, t) ∷ []) t
        ∙ or_right (occurs_in form t) (term_eq t t || false) (or_left (term_eq t t) false (term_eq_same t))

occurs_met : (x y : List Mono) (form : Summands) (ms : List Mono) (t : Term) → is_normal t ≡ true → coefficient_in_difference x y t ≢ pos 0 → coeff_of ms t ≢ 0 → occurs_in (with_summands x y form ms) t ≡ true
occurs_met x y form [] t n d c = absurd (c refl)
occurs_met x y form (m ∷ ms) t n d c = by (one_term m.term t) refl (λ k. occurs_met x y (with_summand x y form (canonical m.term)) ms t n d k)
  where
    by : (b : Bool) → one_term m.term t ≡ b → (coeff_of ms t ≢ 0 → occurs_in (with_summands x y (with_summand x y form (canonical m.term)) ms) t ≡ true) → occurs_in (with_summands x y (with_summand x y form (canonical m.term)) ms) t ≡ true
    by true e ih = (let same : canonical m.term ≡ t = term_eq_is (canonical m.term) (canonical t) e ∙ (normal_is t n).0 in
        ap (λ u. occurs_in (with_summands x y (with_summand x y form u) ms) t) same ∙ occurs_keeps x y (with_summand x y form t) ms t (occurs_here x y form t (normal_is t n).1 d))
    by false e ih = ih (λ z. c (ap (λ k. cond k m.coeff 0 + coeff_of ms t) e ∙ omega (arith, z)))

-- ---- the coefficients of the form

coefficient_absent : (form : Summands) (t : Term) → occurs_in form t ≡ false → coefficient form t ≡ pos 0
coefficient_absent [] t h = refl
coefficient_absent (p ∷ ps) t h = (let w = or_parts (term_eq p.1 t) (occurs_in ps t) h in
    ap (λ b. cond b p.0 (pos 0) +ℤ coefficient ps t) w.0 ∙ omega (arith, sums, coefficient_absent ps t w.1))

coefficient_present : (x y : List Mono) (form : Summands) (t : Term) → have_distinct_terms form ≡ true → AreSummands x y form → occurs_in form t ≡ true → coefficient form t ≡ if_normal t (coefficient_in_difference x y t)
coefficient_present x y [] t d h s = absurd (true≢false (sym s))
coefficient_present x y (p ∷ ps) t d h s = by (term_eq p.1 t) refl (λ k. coefficient_present x y ps t (and_right (not (occurs_in ps p.1)) (have_distinct_terms ps) d) h.1 k)
  where
    by : (b : Bool) → term_eq p.1 t ≡ b → (occurs_in ps t ≡ true → coefficient ps t ≡ if_normal t (coefficient_in_difference x y t)) → cond b p.0 (pos 0) +ℤ coefficient ps t ≡ if_normal t (coefficient_in_difference x y t)
    by true e ih = (let same : p.1 ≡ t = term_eq_is p.1 t e in
        let absent : occurs_in ps t ≡ false = ap (occurs_in ps) (sym same) ∙ not-true (occurs_in ps p.1) (and_left (not (occurs_in ps p.1)) (have_distinct_terms ps) d) in
        let value : if_normal t (coefficient_in_difference x y t) ≡ p.0 = ap (λ u. if_normal u (coefficient_in_difference x y u)) (sym same) ∙ ap (λ b. cond b (coefficient_in_difference x y p.1) (pos 0)) h.0.normal ∙ sym h.0.coefficient in
        omega (arith, sums, coefficient_absent ps t absent) ∙ sym value)
    by false e ih = omega (arith, sums) ∙ ih (ap (λ k. k || occurs_in ps t) (sym e) ∙ s)

pub joined_coefficient : (x y : List Mono) (t : Term) → coefficient (difference_form x y) t ≡ coefficient (normal_summands (plus x ++ minus y)) t
joined_coefficient x y t = by (occurs_in (difference_form x y) t) refl ∙ sym (normal_coefficient x y t)
  where
    none : (n d : Bool) → occurs_in (difference_form x y) t ≡ false → is_normal t ≡ n → int_eq (coefficient_in_difference x y t) (pos 0) ≡ d → pos 0 ≡ cond n (coefficient_in_difference x y t) (pos 0)
    none false d s e f = refl
    none true true s e f = sym (zero_is (coefficient_in_difference x y t) f)
    none true false s e f = (let n = not_zero (coefficient_in_difference x y t) f in
        absurd (true≢false (sym (elim (either (coeff_of x t) (coeff_of y t) n) [
          | inl c ↦ occurs_keeps x y (with_summands x y [] x) y t (occurs_met x y [] x t e n c)
          | inr c ↦ occurs_met x y (with_summands x y [] x) y t e n c
        ]) ∙ s)))
      where
        either : (a b : ℕ) → pos a -ℤ pos b ≢ pos 0 → (a ≢ 0) ⊎ (b ≢ 0)
        either zero zero h = absurd (h refl)
        either zero (suc b) h = inr (λ e. omega (arith, e))
        either (suc a) b h = inl (λ e. omega (arith, e))

    by : (b : Bool) → occurs_in (difference_form x y) t ≡ b → coefficient (difference_form x y) t ≡ if_normal t (coefficient_in_difference x y t)
    by true e = coefficient_present x y (difference_form x y) t (is_joined x y).distinct (is_joined x y).are_summands e
    by false e = coefficient_absent (difference_form x y) t e ∙ none (is_normal t) (int_eq (coefficient_in_difference x y t) (pos 0)) e refl refl

-- ---- sizes

pub no_zero : (x y : List Mono) (form : Summands) → AreSummands x y form → has_no_zero form ≡ true
no_zero x y [] h = refl
no_zero x y (p ∷ ps) h = and_from (not (int_eq p.0 (pos 0))) (has_no_zero ps) (some_is p.0 h.0.some) (no_zero x y ps h.1)
  where
    some_is : (z : ℤ) → z ≢ pos 0 → not (int_eq z (pos 0)) ≡ true
    some_is z n = by (int_eq z (pos 0)) refl
      where
        by : (b : Bool) → int_eq z (pos 0) ≡ b → not b ≡ true
        by true e = absurd (n (zero_is z e))
        by false e = refl

coefficient_bound : (ms : List Mono) (t : Term) → list_all (λ m. is_bounded_coefficient m.coeff) ms ≡ true → coeff_of ms t ≤ 1000000 * length ms
coefficient_bound [] t h = omega arith
coefficient_bound (m ∷ ms) t h =
    by (one_term m.term t) (at_most m.coeff (and_right (nat_le 1 m.coeff) (nat_le m.coeff 1000000) (and_left (is_bounded_coefficient m.coeff) (list_all (λ n. is_bounded_coefficient n.coeff) ms) h)))
    (coefficient_bound ms t (and_right (is_bounded_coefficient m.coeff) (list_all (λ n. is_bounded_coefficient n.coeff) ms) h))
  where
    at_most : (n : ℕ) → nat_le n 1000000 ≡ true → n ≤ 1000000
    at_most n h = grind (arith, nat_tests)

    by : (b : Bool) → m.coeff ≤ 1000000 → coeff_of ms t ≤ 1000000 * length ms → cond b m.coeff 0 + coeff_of ms t ≤ 1000000 * suc (length ms)
    by true a i = omega (arith, a, i)
    by false a i = omega (arith, i)

pub all_small : (x y : List Mono) (form : Summands) → length x + length y ≤ 32 → list_all (λ m. is_bounded_coefficient m.coeff) x ≡ true → list_all (λ m. is_bounded_coefficient m.coeff) y ≡ true
    → AreSummands x y form → has_small_coefficients form ≡ true
all_small x y [] l a b h = refl
all_small x y (p ∷ ps) l a b h =
    and_from (nat_le (unsigned_abs p.0) (2 ^ 30)) (has_small_coefficients ps) (ap (λ z. nat_le (unsigned_abs z) (2 ^ 30)) h.0.coefficient ∙ within (coeff_of x p.1) (coeff_of y p.1)
    (omega (arith, coefficient_bound x p.1 a)) (omega (arith, coefficient_bound y p.1 b))) (all_small x y ps l a b h.1)
  where
    le_is : (a b : ℕ) → a ≤ b → nat_le a b ≡ true
    le_is a b h = grind (arith, nat_tests)

    within : (a b : ℕ) → a ≤ 32000000 → b ≤ 32000000 → nat_le (unsigned_abs (pos a -ℤ pos b)) (2 ^ 30) ≡ true
    within a b h k = le_is (unsigned_abs (pos a -ℤ pos b)) (2 ^ 30) (omega (arith, sums, abs_is (pos a -ℤ pos b)))

terms_length : (x y : List Mono) (form : Summands) (ms : List Mono) → length (with_summands x y form ms) ≤ length form + length ms
terms_length x y form [] = omega arith
terms_length x y form (m ∷ ms) = by (is_passed x y form (canonical m.term)) (terms_length x y (with_summand x y form (canonical m.term)) ms)
  where
    by : (b : Bool) → length (with_summands x y (with_summand x y form (canonical m.term)) ms) ≤ length (with_summand x y form (canonical m.term)) + length ms
        → length (with_summands x y (with_summand x y form (canonical m.term)) ms) ≤ length form + suc (length ms)
    by b h = omega (arith, h, one (is_passed x y form (canonical m.term)))
      where
        one : (b : Bool) → length (cond b form (form ++ (coefficient_in_difference x y (canonical m.term), canonical m.term) ∷ [])) ≤ suc (length form)
        one true = omega arith
        one false = omega (arith, length-append form ((coefficient_in_difference x y (canonical m.term), canonical m.term) ∷ []))

pub joined_length : (x y : List Mono) → length (difference_form x y) ≤ length x + length y
joined_length x y = omega (arith, terms_length x y (with_summands x y [] x) y, terms_length x y [] x)

-- ---- sums that are well formed

module _ (x y : List Mono) (h : are_well_formed_sums x y ≡ true) where
  abbrev each_good : Bool
  each_good = list_all (λ m. same_kind (kind_of_term m.term) (kind_of_sums x y) && is_bounded_coefficient m.coeff) (x ++ y)

  abbrev few_good : Bool
  few_good = nat_le (length (x ++ y)) 32 && each_good

  after_one : few_good ≡ true
  after_one = and_right (nat_le 1 (length (x ++ y))) few_good h

  pub few_monomials : length x + length y ≤ 32
  few_monomials = (let e = and_left (nat_le (length (x ++ y)) 32) each_good after_one in omega (arith, length-append x y, le_of (length (x ++ y)) 32 e))
    where
      le_of : (a b : ℕ) → nat_le a b ≡ true → a ≤ b
      le_of a b h = grind (arith, nat_tests)

  coefficients_of : (k : Kind) (ms : List Mono) → list_all (λ m. same_kind (kind_of_term m.term) k && is_bounded_coefficient m.coeff) ms ≡ true → list_all (λ m. is_bounded_coefficient m.coeff) ms ≡ true
  coefficients_of k [] e = refl
  coefficients_of k (m ∷ ms) e =
      (let first = and_left (same_kind (kind_of_term m.term) k && is_bounded_coefficient m.coeff) (list_all (λ n. same_kind (kind_of_term n.term) k && is_bounded_coefficient n.coeff) ms) e in
      let rest = and_right (same_kind (kind_of_term m.term) k && is_bounded_coefficient m.coeff) (list_all (λ n. same_kind (kind_of_term n.term) k && is_bounded_coefficient n.coeff) ms) e in
      and_from (is_bounded_coefficient m.coeff) (list_all (λ n. is_bounded_coefficient n.coeff) ms) (and_right (same_kind (kind_of_term m.term) k) (is_bounded_coefficient m.coeff) first) (coefficients_of k ms rest))

  all_coefficients : list_all (λ m. is_bounded_coefficient m.coeff) (x ++ y) ≡ true
  all_coefficients = coefficients_of (kind_of_sums x y) (x ++ y) (and_right (nat_le (length (x ++ y)) 32) each_good after_one)

  parts : (xs ys : List Mono) → list_all (λ m. is_bounded_coefficient m.coeff) (xs ++ ys) ≡ true → (list_all (λ m. is_bounded_coefficient m.coeff) xs ≡ true) × (list_all (λ m. is_bounded_coefficient m.coeff) ys ≡ true)
  parts [] ys e = (refl, e)
  parts (m ∷ ms) ys e =
      (let r = parts ms ys (and_right (is_bounded_coefficient m.coeff) (list_all (λ n. is_bounded_coefficient n.coeff) (ms ++ ys)) e) in
      (and_from (is_bounded_coefficient m.coeff) (list_all (λ n. is_bounded_coefficient n.coeff) ms) (and_left (is_bounded_coefficient m.coeff) (list_all (λ n. is_bounded_coefficient n.coeff) (ms ++ ys)) e) r.0, r.1))

  pub left_coefficients : list_all (λ m. is_bounded_coefficient m.coeff) x ≡ true
  left_coefficients = (parts x y all_coefficients).0

  pub right_coefficients : list_all (λ m. is_bounded_coefficient m.coeff) y ≡ true
  right_coefficients = (parts x y all_coefficients).1

abbrev pub AllGood : List Mono → Type 0
AllGood ms = list_all (λ m. is_bounded_coefficient m.coeff) ms ≡ true

-- the sums of an atom that is well formed
pub left_of_eq : (a : Atom) (x y u : List Mono) → is_well_formed_atom a ≡ true → a ≡ MagEq x y → u ≡ x → AllGood u
left_of_eq a x y u h e f = subst AllGood (sym f) (left_coefficients x y (ap is_well_formed_atom (sym e) ∙ h))

pub right_of_eq : (a : Atom) (x y u : List Mono) → is_well_formed_atom a ≡ true → a ≡ MagEq x y → u ≡ y → AllGood u
right_of_eq a x y u h e f = subst AllGood (sym f) (right_coefficients x y (ap is_well_formed_atom (sym e) ∙ h))

pub left_of_lt : (a : Atom) (x y u : List Mono) → is_well_formed_atom a ≡ true → a ≡ MagLt x y → u ≡ x → AllGood u
left_of_lt a x y u h e f = subst AllGood (sym f) (left_coefficients x y (ap is_well_formed_atom (sym e) ∙ h))

pub right_of_lt : (a : Atom) (x y u : List Mono) → is_well_formed_atom a ≡ true → a ≡ MagLt x y → u ≡ y → AllGood u
right_of_lt a x y u h e f = subst AllGood (sym f) (right_coefficients x y (ap is_well_formed_atom (sym e) ∙ h))
