-- Facts of another kind are no instance of an equation over variables.
use Rattle.std.proofs.Common.{◌≡◌, ℕ, ◌+◌, List, [], ◌∷◌, refl, sym, ap, ◌∙◌, arith, Bool, true, false, cond, not, ◌&&◌, ◌||◌, true≢false, eqb-true, eq-eqb, map, ◌⊎◌, inl, inr}
use Rattle.std.specs.List.{list_any}
use Rattle.std.proofs.lemmas.Bool.{and_from, or_left, or_right, or_cases, cases_Bool}
use Rattle.e_literal.specs.declared.literal.Atom.{Atom}
use Rattle.e_literal.specs.declared.literal.Atom.TheVariants.{On, OnC, Inside, Center, Between, Same, MeetLL, MeetLC, MeetCC, EqP, EqL, EqC, MagEq, MagLt}
use Rattle.e_literal.specs.declared.literal.Lit.{Lit}
use Rattle.e_literal.specs.declared.object.Mono.{Mono}
use Rattle.e_literal.specs.declared.object.Term.{Term}
use Rattle.e_literal.specs.declared.object.Term.TheVariants.{Seg, Ang, Area, Right}
use Rattle.e_literal.specs.Facts.{has}
use Rattle.e_literal.specs.Rename.{term_at}
use Rattle.e_literal.specs.Same.{one_term, coeff_of, agree, same_neg, same_atom, same_lit, EqualNormal}
use Rattle.e_literal.proofs.Agreeing.{agree_equal}
use Rattle.e_literal.proofs.Booleans.{and_left, and_right}
use Rattle.e_transfer.specs.declared.query.Strength.TheVariants as strength
use Rattle.e_transfer.specs.Marks.{NoneSuffices}
use Rattle.e_transfer.specs.inner.Alike.{are_alike, has_alike, is_alike, are_all_alike, may_be_equation, may_be}
use Rattle.e_transfer.specs.inner.Matches.{cancels, sum_under}

or_first : (a b : Bool) → (a || b) ≡ false → a ≡ false
or_first true b e = e
or_first false b e = refl

or_second : (a b : Bool) → (a || b) ≡ false → b ≡ false
or_second true b e = absurd (true≢false e)
or_second false b e = e

-- terms of two kinds are not one
unlike_terms : (f : ℕ → ℕ) (t u : Term) → are_alike t u ≡ false → one_term (term_at f t) u ≡ false
unlike_terms f (Seg a b) (Seg c d) e = absurd (true≢false e)
unlike_terms f (Seg a b) (Ang c d g) e = refl
unlike_terms f (Seg a b) (Area c d g) e = refl
unlike_terms f (Seg a b) Right e = refl
unlike_terms f (Ang a b h) (Seg c d) e = refl
unlike_terms f (Ang a b h) (Ang c d g) e = absurd (true≢false e)
unlike_terms f (Ang a b h) (Area c d g) e = refl
unlike_terms f (Ang a b h) Right e = refl
unlike_terms f (Area a b h) (Seg c d) e = refl
unlike_terms f (Area a b h) (Ang c d g) e = refl
unlike_terms f (Area a b h) (Area c d g) e = absurd (true≢false e)
unlike_terms f (Area a b h) Right e = refl
unlike_terms f Right (Seg c d) e = refl
unlike_terms f Right (Ang c d g) e = refl
unlike_terms f Right (Area c d g) e = refl
unlike_terms f Right Right e = absurd (true≢false e)

-- so a term of another kind does not occur in a sum
unlike_sum : (f : ℕ → ℕ) (x : List Mono) (t : Term) → has_alike x t ≡ false → coeff_of (sum_under f x) t ≡ 0
unlike_sum f [] t e = refl
unlike_sum f (m ∷ ms) t e =
    let rest = list_any (λ n. are_alike n.term t) ms in
    let here : cond (one_term (term_at f m.term) t) m.coeff 0 ≡ 0 = ap (λ b. cond b m.coeff 0) (unlike_terms f m.term t (or_first (are_alike m.term t) rest e)) in
    let later = unlike_sum f ms t (or_second (are_alike m.term t) rest e) in omega (arith, here, later)

-- a term of another kind that occurs in z - w
abbrev Unlike : List Mono → List Mono → List Mono → List Mono → Type 0
Unlike x y z w = (t : Term) × (has_alike x t ≡ false) × (has_alike y t ≡ false) × (cancels z w t ≡ false)

some_unlike : (x y z w ms : List Mono) → are_all_alike x y z w ms ≡ false → Unlike x y z w
some_unlike x y z w [] e = absurd (true≢false e)
some_unlike x y z w (m ∷ ms) e = elim (cases_Bool (is_alike x y z w m.term)) [
  | inl here ↦ some_unlike x y z w ms (sym (ap (λ b. b && are_all_alike x y z w ms) here) ∙ e)
  | inr other ↦
      let t = m.term in
      let later = or_second (has_alike x t) (has_alike y t || cancels z w t) other in
      (t, or_first (has_alike x t) (has_alike y t || cancels z w t) other, or_first (has_alike y t) (cancels z w t) later, or_second (has_alike y t) (cancels z w t) later)
]

-- where there is one, the two have not one normal form
unequal_forms : (f : ℕ → ℕ) (x y z w : List Mono) → Unlike x y z w → (agree z w (sum_under f x) (sum_under f y) || agree z w (sum_under f y) (sum_under f x)) ≡ true → ⊥
unequal_forms f x y z w some same =
    let t = some.0 in
    let one = unlike_sum f x t some.1 in
    let other = unlike_sum f y t some.2 in
    elim (or_cases (agree z w (sum_under f x) (sum_under f y)) (agree z w (sum_under f y) (sum_under f x)) same) [
      | inl a ↦
          let e = (agree_equal z w (sum_under f x) (sum_under f y)).0 a t in
          true≢false (sym (eq-eqb (coeff_of z t) (coeff_of w t) (omega (arith, e, one, other))) ∙ some.3)
      | inr a ↦
          let e = (agree_equal z w (sum_under f y) (sum_under f x)).0 a t in
          true≢false (sym (eq-eqb (coeff_of z t) (coeff_of w t) (omega (arith, e, one, other))) ∙ some.3)
    ]

and_cases : (a b : Bool) → (a && b) ≡ false → (a ≡ false) ⊎ (b ≡ false)
and_cases true b e = inr e
and_cases false b e = inl refl

unlike_atom : (f : ℕ → ℕ) (x y : List Mono) (a : Atom) → may_be_equation x y a ≡ false → same_atom a (MagEq (sum_under f x) (sum_under f y)) ≡ true → ⊥
unlike_atom f x y (MagEq z w) none same = elim (and_cases (are_all_alike x y z w z) (are_all_alike x y z w w) none) [
  | inl e ↦ unequal_forms f x y z w (some_unlike x y z w z e) same
  | inr e ↦ unequal_forms f x y z w (some_unlike x y z w w e) same
]
unlike_atom f x y (On a b) none same = true≢false (sym same)
unlike_atom f x y (OnC a b) none same = true≢false (sym same)
unlike_atom f x y (Inside a b) none same = true≢false (sym same)
unlike_atom f x y (Center a b) none same = true≢false (sym same)
unlike_atom f x y (Between a b c) none same = true≢false (sym same)
unlike_atom f x y (Same a b c) none same = true≢false (sym same)
unlike_atom f x y (MeetLL a b) none same = true≢false (sym same)
unlike_atom f x y (MeetLC a b) none same = true≢false (sym same)
unlike_atom f x y (MeetCC a b) none same = true≢false (sym same)
unlike_atom f x y (EqP a b) none same = true≢false (sym same)
unlike_atom f x y (EqL a b) none same = true≢false (sym same)
unlike_atom f x y (EqC a b) none same = true≢false (sym same)
unlike_atom f x y (MagLt a b) none same = true≢false (sym same)

unlike_fact : (f : ℕ → ℕ) (neg : Bool) (x y : List Mono) (l : Lit) → may_be neg x y l ≡ false → same_lit l (record { neg = neg; atom = MagEq (sum_under f x) (sum_under f y) }) ≡ true → ⊥
unlike_fact f neg x y l none same = elim (and_cases (may_be_equation x y l.atom) (same_neg l.neg neg) none) [
  | inl e ↦ unlike_atom f x y l.atom e (and_right (same_neg l.neg neg) (same_atom l.atom (MagEq (sum_under f x) (sum_under f y))) same)
  | inr e ↦ true≢false (sym (and_left (same_neg l.neg neg) (same_atom l.atom (MagEq (sum_under f x) (sum_under f y))) same) ∙ e)
]

none_among : (f : ℕ → ℕ) (neg : Bool) (x y : List Mono) (facts : List Lit) → list_any (may_be neg x y) facts ≡ false
    → has facts (record { neg = neg; atom = MagEq (sum_under f x) (sum_under f y) }) ≡ true → ⊥
none_among f neg x y [] none there = true≢false (sym there)
none_among f neg x y (l ∷ ls) none there =
    let need : Lit = record { neg = neg; atom = MagEq (sum_under f x) (sum_under f y) } in
    elim (or_cases (same_lit l need) (has ls need) there) [
      | inl same ↦ unlike_fact f neg x y l (or_first (may_be neg x y l) (list_any (may_be neg x y) ls) none) same
      | inr later ↦ none_among f neg x y ls (or_second (may_be neg x y l) (list_any (may_be neg x y) ls) none) later
    ]

-- so no instance is a fact
pub no_fact : (neg : Bool) (x y : List Mono) (facts : List Lit) → list_any (may_be neg x y) facts ≡ false → NoneSuffices strength.Facts facts (record { neg = neg; atom = MagEq x y })
no_fact neg x y facts none = λ p q c enough. none_among p neg x y facts none enough
