-- When two comparisons of magnitudes are written alike, term by term.
use Rattle.std.specs.Prelude.{Bool, true, false, ◌&&◌, ◌==◌, List, [], ◌∷◌}
use Rattle.e_literal.specs.declared.object.Mono.{Mono}
use Rattle.e_literal.specs.declared.literal.Lit.{Lit}
use Rattle.e_literal.specs.declared.literal.Atom.{Atom}
use Rattle.e_literal.specs.declared.literal.Atom.TheVariants.{MagEq, MagLt}
use Rattle.e_literal.specs.Same.{term_eq, same_neg}

abbrev pub monos_alike : Mono → Mono → Bool
monos_alike m n = m.coeff == n.coeff && term_eq m.term n.term

abbrev pub sums_alike : List Mono → List Mono → Bool
sums_alike [] [] = true
sums_alike (m ∷ ms) (n ∷ ns) = monos_alike m n && sums_alike ms ns
sums_alike _ _ = false

abbrev pub atoms_alike : Atom → Atom → Bool
atoms_alike (MagEq x y) (MagEq z w) = sums_alike x z && sums_alike y w
atoms_alike (MagLt x y) (MagLt z w) = sums_alike x z && sums_alike y w
atoms_alike _ _ = false

abbrev pub lits_alike : Lit → Lit → Bool
lits_alike a b = same_neg a.neg b.neg && atoms_alike a.atom b.atom
