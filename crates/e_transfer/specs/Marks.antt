-- Which relations occur among facts, and with which sign.
use Rattle.std.specs.Prelude.{◌≡◌, ℕ, ◌+◌, ◌*◌, List, Bool, true, false, ◌&&◌, if◌then◌else◌}
use Rattle.std.specs.Prelude.{slice_index_or, slice_get, Some}
use Rattle.std.specs.List.{list_all}
use Rattle.e_literal.specs.declared.literal.Atom.{Atom}
use Rattle.e_literal.specs.declared.literal.Atom.TheVariants.{On, OnC, Inside, Center, Between}
use Rattle.e_literal.specs.declared.literal.Atom.TheVariants.{Same, MeetLL, MeetLC, MeetCC, EqP}
use Rattle.e_literal.specs.declared.literal.Atom.TheVariants.{EqL, EqC, MagEq, MagLt}
use Rattle.e_literal.specs.declared.literal.Lit.{Lit}
use Rattle.e_literal.specs.declared.object.Mono.{Mono}
use Rattle.e_literal.specs.declared.object.Obj.{Obj}
use Rattle.e_literal.specs.declared.object.Term.{Term}
use Rattle.e_literal.specs.declared.object.Term.TheVariants.{Area}
use Rattle.e_literal.specs.Rename.{atom_at}
use Rattle.e_clause.specs.Rows.{Row}
use Rattle.e_clause.specs.Instance.{clause_of, lit_at}
use Rattle.e_transfer.specs.declared.query.Strength.{Strength}
use Rattle.e_transfer.specs.GivenGoals.{IsFittingLiteral, Suffices}

-- the relations, numbered; those of diagrams come first
abbrev pub relation_number : Atom → ℕ
relation_number (On a b) = 0
relation_number (OnC a b) = 1
relation_number (Inside a b) = 2
relation_number (Center a b) = 3
relation_number (Between a b c) = 4
relation_number (Same a b c) = 5
relation_number (MeetLL a b) = 6
relation_number (MeetLC a b) = 7
relation_number (MeetCC a b) = 8
relation_number (EqP a b) = 9
relation_number (EqL a b) = 10
relation_number (EqC a b) = 11
relation_number (MagEq x y) = 12
relation_number (MagLt x y) = 13

-- two marks for each relation: of it, and of its negation
abbrev pub mark_number : ℕ → Bool → ℕ
mark_number relation_number neg = 2 * relation_number + (if neg then 1 else 0)

abbrev pub lit_mark : Lit → ℕ
lit_mark l = mark_number (relation_number l.atom) l.neg

-- there is a mark for the literal's relation and sign
abbrev pub is_marked : List Bool → Lit → Bool
is_marked marks l = slice_index_or marks (lit_mark l) false

abbrev pub are_marked : List Bool → List Lit → Bool
are_marked marks facts = list_all (is_marked marks) facts

-- ---- areas

abbrev pub is_area_term : Term → Bool
is_area_term (Area a b c) = true
is_area_term _ = false

abbrev pub all_are_areas : List Mono → Bool
all_are_areas x = list_all (λ m. is_area_term m.term) x

-- the atom, or its negation, says that areas differ, or that one is less
abbrev pub is_strict_on_areas : Bool → Atom → Bool
is_strict_on_areas true (MagEq x y) = all_are_areas x && all_are_areas y
is_strict_on_areas false (MagLt x y) = all_are_areas x && all_are_areas y
is_strict_on_areas _ _ = false

-- ---- places of a clause

-- no literal over objects that is of this one suffices
abbrev pub NoneSuffices : Strength → List Lit → Lit → Type 0
NoneSuffices m facts l =
    (p q c : ℕ → ℕ) → Suffices m facts (record { neg = l.neg; atom = atom_at p q c l.atom }) → ⊥

-- no instance has at this place of the clause the goal, or a literal whose negation suffices
abbrev pub NoneHolds : Strength → List Lit → Lit → Row → ℕ → Type 0
NoneHolds m facts goal r at =
    (l : Lit) → slice_get (clause_of r) at ≡ Some l → (args : List Obj)
    → IsFittingLiteral m facts goal false (lit_at r args l) → ⊥
