-- Literals that are written alike are the same.
use Rattle.std.proofs.Common.{◌≡◌, List, [], ◌∷◌, refl, sym, ap₂, ◌∙◌, true, true≢false, eqb, eqb-true}
use Rattle.std.proofs.lemmas.Bool.{and_from}
use Rattle.e_literal.specs.declared.object.Term.{Term}
use Rattle.e_literal.specs.declared.object.Mono.{Mono}
use Rattle.e_literal.specs.declared.literal.Lit.{Lit}
use Rattle.e_literal.specs.declared.literal.Atom.{Atom}
use Rattle.e_literal.specs.declared.literal.Atom.TheVariants.{MagEq, MagLt}
use Rattle.e_literal.specs.Same.{term_eq, same_atom, same_neg, same_lit}
use Rattle.e_literal.proofs.Terms.{term_eq_is}
use Rattle.e_literal.proofs.Agreeing.{same_atom_self}
use Rattle.e_literal.proofs.Booleans.{and_left, and_right}
use Rattle.e_verify.specs.inner.Alike.{monos_alike, sums_alike, atoms_alike, lits_alike}

one_mono : (m n : Mono) → monos_alike m n ≡ true → m ≡ n
one_mono m n h = ap₂ (λ c (t : Term). let r : Mono = record { coeff = c; term = t } in r) (eqb-true m.coeff n.coeff (and_left (eqb m.coeff n.coeff) (term_eq m.term n.term) h)) (term_eq_is m.term n.term (and_right (eqb m.coeff n.coeff) (term_eq m.term n.term) h))

one_sum : (x y : List Mono) → sums_alike x y ≡ true → x ≡ y
one_sum [] [] h = refl
one_sum (m ∷ ms) (n ∷ ns) h = ap₂ (λ a b. a ∷ b) (one_mono m n (and_left (monos_alike m n) (sums_alike ms ns) h)) (one_sum ms ns (and_right (monos_alike m n) (sums_alike ms ns) h))
one_sum _ _ h = absurd (true≢false (sym h))

alike_atoms : (a b : Atom) → atoms_alike a b ≡ true → same_atom a b ≡ true
alike_atoms (MagEq x y) (MagEq z w) h =
    ap₂ (λ u v. same_atom (MagEq x y) (MagEq u v)) (sym (one_sum x z (and_left (sums_alike x z) (sums_alike y w) h))) (sym (one_sum y w (and_right (sums_alike x z) (sums_alike y w) h))) ∙ same_atom_self (MagEq x y)
alike_atoms (MagLt x y) (MagLt z w) h =
    ap₂ (λ u v. same_atom (MagLt x y) (MagLt u v)) (sym (one_sum x z (and_left (sums_alike x z) (sums_alike y w) h))) (sym (one_sum y w (and_right (sums_alike x z) (sums_alike y w) h))) ∙ same_atom_self (MagLt x y)
alike_atoms a b h = absurd (true≢false (sym h))

pub alike_is_same : (a b : Lit) → lits_alike a b ≡ true → same_lit a b ≡ true
alike_is_same a b h =
    and_from (same_neg a.neg b.neg) (same_atom a.atom b.atom) (and_left (same_neg a.neg b.neg) (atoms_alike a.atom b.atom) h) (alike_atoms a.atom b.atom (and_right (same_neg a.neg b.neg) (atoms_alike a.atom b.atom) h))
