-- Literals that are the same have one fingerprint.
use Rattle.std.proofs.Common.{◌≡◌, ℕ, ◌+◌, refl, sym, ap, ap₂, ◌∙◌, true, false, true≢false, ◌&&◌, Bool, eqb, inl, inr, arith, eqb-true}
use Rattle.std.specs.Int.{abs_diff}
use Rattle.std.proofs.lemmas.Bool.{or_cases}
use Rattle.e_literal.specs.declared.literal.Lit.{Lit}
use Rattle.e_literal.specs.declared.literal.Atom.{Atom}
use Rattle.e_literal.specs.declared.literal.Atom.TheVariants.{On, OnC, Inside, Center, Between, Same, MeetLL, MeetLC, MeetCC, EqP, EqL, EqC, MagEq, MagLt}
use Rattle.e_literal.specs.Same.{agree, same_atom, same_neg, same_lit}
use Rattle.e_literal.proofs.Valued.{same_difference}
use Rattle.e_literal.proofs.Booleans.{and_left, and_right, eqb_self}
use Rattle.e_verify.specs.inner.Fingerprint.{term_number, sum_weight, packed_number, atom_fingerprint}

apart_moved : (a b c d : ℕ) → a + d ≡ c + b → abs_diff a b ≡ abs_diff c d
apart_moved a b c d e = omega (arith, e)

apart_turned : (a b c d : ℕ) → a + c ≡ d + b → abs_diff a b ≡ abs_diff c d
apart_turned a b c d e = omega (arith, e)

two : (kind a b c d : ℕ) → (eqb a c && eqb b d) ≡ true → packed_number kind a b 0 ≡ packed_number kind c d 0
two kind a b c d h = ap₂ (λ x y. packed_number kind x y 0) (eqb-true a c (and_left (eqb a c) (eqb b d) h)) (eqb-true b d (and_right (eqb a c) (eqb b d) h))

three : (kind a b c d e f : ℕ) → (eqb a d && (eqb b e && eqb c f)) ≡ true → packed_number kind a b c ≡ packed_number kind d e f
three kind a b c d e f h =
    let rest = and_right (eqb a d) (eqb b e && eqb c f) h in
    ap (λ x. packed_number kind x b c) (eqb-true a d (and_left (eqb a d) (eqb b e && eqb c f) h))
    ∙ ap₂ (λ y z. packed_number kind d y z) (eqb-true b e (and_left (eqb b e) (eqb c f) rest)) (eqb-true c f (and_right (eqb b e) (eqb c f) rest))

one_fingerprint : (a b : Atom) → same_atom a b ≡ true → atom_fingerprint a ≡ atom_fingerprint b
unfolding atom_fingerprint
one_fingerprint (On a b) (On c d) h = two 1 a b c d h
one_fingerprint (OnC a b) (OnC c d) h = two 2 a b c d h
one_fingerprint (Inside a b) (Inside c d) h = two 3 a b c d h
one_fingerprint (Center a b) (Center c d) h = two 4 a b c d h
one_fingerprint (Between a b c) (Between d e f) h = three 5 a b c d e f h
one_fingerprint (Same a b c) (Same d e f) h = three 6 a b c d e f h
one_fingerprint (MeetLL a b) (MeetLL c d) h = two 7 a b c d h
one_fingerprint (MeetLC a b) (MeetLC c d) h = two 8 a b c d h
one_fingerprint (MeetCC a b) (MeetCC c d) h = two 9 a b c d h
one_fingerprint (EqP a b) (EqP c d) h = two 10 a b c d h
one_fingerprint (EqL a b) (EqL c d) h = two 11 a b c d h
one_fingerprint (EqC a b) (EqC c d) h = two 12 a b c d h
one_fingerprint (MagEq x y) (MagEq z w) h = elim (or_cases (agree x y z w) (agree x y w z) h) [
  | inl c ↦ apart_moved (sum_weight x) (sum_weight y) (sum_weight z) (sum_weight w) (same_difference x y z w term_number c)
  | inr c ↦ apart_turned (sum_weight x) (sum_weight y) (sum_weight z) (sum_weight w) (same_difference x y w z term_number c)
]
one_fingerprint (MagLt x y) (MagLt z w) h = apart_moved (sum_weight x) (sum_weight y) (sum_weight z) (sum_weight w) (same_difference x y z w term_number h)
one_fingerprint a b h = absurd (true≢false (sym h))

-- literals with two fingerprints are not the same
not_same : (f l : Lit) → eqb (atom_fingerprint f.atom) (atom_fingerprint l.atom) ≡ false → same_lit f l ≡ false
not_same f l e = by (same_lit f l) refl
  where
    by : (same : Bool) → same_lit f l ≡ same → same ≡ false
    by false h = refl
    by true h =
        let one = one_fingerprint f.atom l.atom (and_right (same_neg f.neg l.neg) (same_atom f.atom l.atom) h) in
        sym (eqb_self (atom_fingerprint l.atom)) ∙ ap (λ n. eqb n (atom_fingerprint l.atom)) (sym one) ∙ e

-- a fact whose fingerprint is another is not the same
pub apart_by_number : (fact inside l : Lit) (m n : ℕ) → inside ≡ fact → m ≡ atom_fingerprint inside.atom → n ≡ atom_fingerprint l.atom → (m ≡ n → ⊥) → eqb m n ≡ same_lit fact l
apart_by_number fact inside l m n is one other apart = by (eqb m n) refl
  where
    by : (equal : Bool) → eqb m n ≡ equal → eqb m n ≡ same_lit fact l
    by true e = absurd (apart (eqb-true m n e))
    by false e = e ∙ sym (ap (λ f. same_lit f l) (sym is) ∙ not_same inside l (ap₂ eqb (sym one) (sym other) ∙ e))
