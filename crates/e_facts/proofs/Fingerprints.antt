-- Literals that are the same have one fingerprint.
use Rattle.std.proofs.Common.{◌≡◌, ℕ, ◌+◌, refl, sym, ap, ◌∙◌, true, false, true≢false, ◌&&◌, ◌==◌, Bool, eqb, inl, inr, arith}
use Rattle.std.specs.Int.{abs_diff}
use Rattle.std.proofs.lemmas.Bool.{or_cases}
use Rattle.e_literal.specs.declared.literal.Lit.{Lit}
use Rattle.e_literal.specs.declared.literal.Atom.{Atom}
use Rattle.e_literal.specs.declared.literal.Atom.TheVariants.{On, OnC, Inside, Center, Between, Same, MeetLL, MeetLC, MeetCC, EqP, EqL, EqC, MagEq, MagLt}
use Rattle.e_literal.specs.Same.{agree, same_atom, same_neg, same_lit}
use Rattle.e_literal.proofs.Valued.{same_difference}
use Rattle.e_literal.proofs.Booleans.{and_right, eqb_self}
use Rattle.e_facts.specs.inner.Fingerprint.{term_number, sum_weight, fingerprint}

apart_moved : (a b c d : ℕ) → a + d ≡ c + b → abs_diff a b ≡ abs_diff c d
apart_moved a b c d e = omega (arith, e)

apart_turned : (a b c d : ℕ) → a + c ≡ d + b → abs_diff a b ≡ abs_diff c d
apart_turned a b c d e = omega (arith, e)

one_fingerprint : (a b : Atom) → same_atom a b ≡ true → fingerprint a ≡ fingerprint b
unfolding fingerprint
one_fingerprint (On a b) (On c d) h = refl
one_fingerprint (OnC a b) (OnC c d) h = refl
one_fingerprint (Inside a b) (Inside c d) h = refl
one_fingerprint (Center a b) (Center c d) h = refl
one_fingerprint (Between a b c) (Between d e f) h = refl
one_fingerprint (Same a b c) (Same d e f) h = refl
one_fingerprint (MeetLL a b) (MeetLL c d) h = refl
one_fingerprint (MeetLC a b) (MeetLC c d) h = refl
one_fingerprint (MeetCC a b) (MeetCC c d) h = refl
one_fingerprint (EqP a b) (EqP c d) h = refl
one_fingerprint (EqL a b) (EqL c d) h = refl
one_fingerprint (EqC a b) (EqC c d) h = refl
one_fingerprint (MagEq x y) (MagEq z w) h = elim (or_cases (agree x y z w) (agree x y w z) h) [
  | inl c ↦ apart_moved (sum_weight x) (sum_weight y) (sum_weight z) (sum_weight w) (same_difference x y z w term_number c)
  | inr c ↦ apart_turned (sum_weight x) (sum_weight y) (sum_weight z) (sum_weight w) (same_difference x y w z term_number c)
]
one_fingerprint (MagLt x y) (MagLt z w) h = apart_moved (sum_weight x) (sum_weight y) (sum_weight z) (sum_weight w) (same_difference x y z w term_number h)
one_fingerprint a b h = absurd (true≢false (sym h))

-- comparing the fingerprints before changes nothing
pub same_by_number : (f l : Lit) → (fingerprint f.atom == fingerprint l.atom) && same_lit f l ≡ same_lit f l
same_by_number f l = by (fingerprint f.atom == fingerprint l.atom) (same_lit f l) refl refl
  where
    by : (equal same : Bool) → (fingerprint f.atom == fingerprint l.atom) ≡ equal → same_lit f l ≡ same → equal && same ≡ same
    by true same e h = refl
    by false false e h = refl
    by false true e h =
        let one = one_fingerprint f.atom l.atom (and_right (same_neg f.neg l.neg) (same_atom f.atom l.atom) h) in
        absurd (true≢false (sym (eqb_self (fingerprint l.atom)) ∙ ap (λ n. n == fingerprint l.atom) (sym one) ∙ e))
