-- A literal that clashes among the facts is the same as one that is a fact and clashes itself.
use Rattle.std.proofs.Common.{◌≡◌, ℕ, ◌==◌, is_some, List, [], ◌∷◌, sym, ap, ◌∙◌, Bool, true, false, not, ◌&&◌, true≢false, inl, inr, eqb-true}
use Rattle.std.specs.List.{list_any}
use Rattle.std.proofs.lemmas.Bool.{or_left, or_right, or_cases, not-true}
use Rattle.e_literal.specs.declared.literal.Lit.{Lit}
use Rattle.e_literal.specs.declared.literal.Atom.{Atom}
use Rattle.e_literal.specs.declared.literal.Atom.TheVariants.{On, OnC, Inside, Center, Between, Same, MeetLL, MeetLC, MeetCC, EqP, EqL, EqC, MagEq, MagLt}
use Rattle.e_literal.specs.Literal.{kind_of_atom, negation}
use Rattle.e_literal.specs.Same.{same_neg, same_atom, same_lit}
use Rattle.e_literal.specs.Facts.{has, is_metric}
use Rattle.e_literal.proofs.Booleans.{and_left, and_right, same_neg_is}
use Rattle.e_clause.specs.Clash.{clash, clashes_at}

two : (f : ℕ → ℕ → Atom) (a b c d : ℕ) → (a == c && b == d) ≡ true → f a b ≡ f c d
two f a b c d h = ap (λ x. f x b) (eqb-true a c (and_left (a == c) (b == d) h)) ∙ ap (f c) (eqb-true b d (and_right (a == c) (b == d) h))

three : (g : ℕ → ℕ → ℕ → Atom) (a b c d e f : ℕ) → (a == d && (b == e && c == f)) ≡ true → g a b c ≡ g d e f
three g a b c d e f h =
    ap (λ x. g x b c) (eqb-true a d (and_left (a == d) (b == e && c == f) h))
    ∙ two (g d) b c e f (and_right (a == d) (b == e && c == f) h)

-- diagram atoms that are the same are equal
pub atom_is : (a b : Atom) → is_some (kind_of_atom b) ≡ false → same_atom a b ≡ true → a ≡ b
atom_is (On a b) (On c d) m h = two On a b c d h
atom_is (OnC a b) (OnC c d) m h = two OnC a b c d h
atom_is (Inside a b) (Inside c d) m h = two Inside a b c d h
atom_is (Center a b) (Center c d) m h = two Center a b c d h
atom_is (Between a b c) (Between d e f) m h = three Between a b c d e f h
atom_is (Same a b c) (Same d e f) m h = three Same a b c d e f h
atom_is (MeetLL a b) (MeetLL c d) m h = two MeetLL a b c d h
atom_is (MeetLC a b) (MeetLC c d) m h = two MeetLC a b c d h
atom_is (MeetCC a b) (MeetCC c d) m h = two MeetCC a b c d h
atom_is (EqP a b) (EqP c d) m h = two EqP a b c d h
atom_is (EqL a b) (EqL c d) m h = two EqL a b c d h
atom_is (EqC a b) (EqC c d) m h = two EqC a b c d h
atom_is a (MagEq x y) m h = absurd (true≢false m)
atom_is a (MagLt x y) m h = absurd (true≢false m)
atom_is a b m h = absurd (true≢false (sym h))

-- and so are diagram literals
lit_is : (f l : Lit) → is_metric l ≡ false → same_lit f l ≡ true → f ≡ l
lit_is f l m h =
    ap (λ n. record { neg = n; atom = f.atom }) (same_neg_is f.neg l.neg (and_left (same_neg f.neg l.neg) (same_atom f.atom l.atom) h))
    ∙ ap (λ a. record { neg = l.neg; atom = a }) (atom_is f.atom l.atom m (and_right (same_neg f.neg l.neg) (same_atom f.atom l.atom) h))

any_fact : (p : Lit → Bool) (l : Lit) (fs : List Lit) → is_metric l ≡ false → p l ≡ true → has fs l ≡ true → list_any p fs ≡ true
any_fact p l [] m h g = absurd (true≢false (sym g))
any_fact p l (f ∷ fs) m h g = elim (or_cases (same_lit f l) (has fs l) g) [
  | inl e ↦ or_left (p f) (list_any p fs) (ap p (lit_is f l m e) ∙ h)
  | inr e ↦ or_right (p f) (list_any p fs) (any_fact p l fs m h e)
]

pub clash_of : (facts : List Lit) (l : Lit) → clashes_at facts l ≡ true → clash facts ≡ true
clash_of facts l h =
    any_fact (clashes_at facts) l facts (not-true (is_metric l) (and_left (not (is_metric l)) (has facts l && has facts (negation l)) h)) h
    (and_left (has facts l) (has facts (negation l)) (and_right (not (is_metric l)) (has facts l && has facts (negation l)) h))
