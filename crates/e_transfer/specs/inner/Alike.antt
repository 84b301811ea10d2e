-- Facts that are no instance of an equation over variables: they have a term of another kind.
use Rattle.std.specs.Prelude.{List, Bool, true, false, ◌&&◌, ◌||◌}
use Rattle.std.specs.List.{list_all, list_any}
use Rattle.e_literal.specs.declared.literal.Atom.{Atom}
use Rattle.e_literal.specs.declared.literal.Atom.TheVariants.{MagEq}
use Rattle.e_literal.specs.declared.literal.Lit.{Lit}
use Rattle.e_literal.specs.declared.object.Mono.{Mono}
use Rattle.e_literal.specs.declared.object.Term.{Term}
use Rattle.e_literal.specs.declared.object.Term.TheVariants.{Seg, Ang, Area, Right}
use Rattle.e_literal.specs.Same.{same_neg}
use Rattle.e_transfer.specs.inner.Matches.{cancels}

-- two terms of one kind
abbrev pub are_alike : Term → Term → Bool
are_alike (Seg a b) (Seg c d) = true
are_alike (Ang a b c) (Ang d e f) = true
are_alike (Area a b c) (Area d e f) = true
are_alike Right Right = true
are_alike _ _ = false

abbrev pub has_alike : List Mono → Term → Bool
has_alike sum t = list_any (λ m. are_alike m.term t) sum

-- x or y has a term of the kind, or the term does not occur in z - w
abbrev pub is_alike : List Mono → List Mono → List Mono → List Mono → Term → Bool
is_alike x y z w t = has_alike x t || (has_alike y t || cancels z w t)

abbrev pub are_all_alike : List Mono → List Mono → List Mono → List Mono → List Mono → Bool
are_all_alike x y z w ms = list_all (λ m. is_alike x y z w m.term) ms

-- the literal may be an instance of x = y, or of its negation
abbrev pub may_be_equation : List Mono → List Mono → Atom → Bool
may_be_equation x y (MagEq z w) = are_all_alike x y z w z && are_all_alike x y z w w
may_be_equation x y _ = false

abbrev pub may_be : Bool → List Mono → List Mono → Lit → Bool
may_be neg x y l = may_be_equation x y l.atom && same_neg l.neg neg
