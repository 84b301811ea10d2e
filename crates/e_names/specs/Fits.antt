-- Names that differ, and diagram literals.
use Rattle.std.specs.Prelude.{◌≡◌, ℕ, List, [], ◌∷◌, Bool, true, false, not, ◌&&◌}
use Rattle.std.specs.List.{list_all}
use Rattle.e_literal.specs.declared.literal.Atom.{Atom}
use Rattle.e_literal.specs.declared.literal.Atom.TheVariants as atoms
use Rattle.e_literal.specs.declared.literal.Lit.{Lit}
use Rattle.e_deriv.specs.declared.names.Names.{Names}
use Rattle.e_names.specs.Scope.{is_among_names}

-- no two of the names are equal
abbrev pub are_distinct : List (List ℕ) → Bool
are_distinct [] = true
are_distinct (n ∷ ns) = not (is_among_names ns n) && are_distinct ns

-- no name of the second list is in the first
abbrev pub are_disjoint_names : List (List ℕ) → List (List ℕ) → Bool
are_disjoint_names ms ns = list_all (λ n. not (is_among_names ms n)) ns

-- no two objects have one name
pub record NamesDiffer (ns : Names) : Type 0 where
  pub points : are_distinct ns.points ≡ true
  pub lines : are_distinct ns.lines ≡ true
  pub circles : are_distinct ns.circles ≡ true
  pub points_lines : are_disjoint_names ns.points ns.lines ≡ true
  pub points_circles : are_disjoint_names ns.points ns.circles ≡ true
  pub lines_circles : are_disjoint_names ns.lines ns.circles ≡ true

-- an atom of diagrams or of equal objects
abbrev pub is_diagram_atom : Atom → Bool
is_diagram_atom (atoms.MagEq x y) = false
is_diagram_atom (atoms.MagLt x y) = false
is_diagram_atom a = true

abbrev pub is_diagram_lit : Lit → Bool
is_diagram_lit l = is_diagram_atom l.atom
