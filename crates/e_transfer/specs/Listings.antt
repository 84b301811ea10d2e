-- The numbers of the facts, by their marks.
use Rattle.std.specs.Prelude.{◌≡◌, ℕ, ◌<◌, List, [], ◌∷◌, ◌++◌, ◌==◌, flat_map, length, slice_index_or}
use Rattle.std.specs.Prelude.{slice_set, if◌then◌else◌}
use Rattle.e_literal.specs.declared.literal.Atom.{Atom}
use Rattle.e_literal.specs.declared.literal.Atom.TheVariants.{On, OnC, Inside, Center, Between}
use Rattle.e_literal.specs.declared.literal.Atom.TheVariants.{Same, MeetLL, MeetLC, MeetCC, EqP}
use Rattle.e_literal.specs.declared.literal.Atom.TheVariants.{EqL, EqC, MagEq, MagLt}
use Rattle.e_literal.specs.declared.literal.Lit.{Lit}
use Rattle.e_transfer.specs.Marks.{lit_mark}

-- the numbers of a diagram atom, with 0 for the third of two
abbrev pub numbers_of_atom : Atom → ℕ × ℕ × ℕ
numbers_of_atom (On a b) = (a, b, 0)
numbers_of_atom (OnC a b) = (a, b, 0)
numbers_of_atom (Inside a b) = (a, b, 0)
numbers_of_atom (Center a b) = (a, b, 0)
numbers_of_atom (Between a b c) = (a, b, c)
numbers_of_atom (Same a b c) = (a, b, c)
numbers_of_atom (MeetLL a b) = (a, b, 0)
numbers_of_atom (MeetLC a b) = (a, b, 0)
numbers_of_atom (MeetCC a b) = (a, b, 0)
numbers_of_atom (EqP a b) = (a, b, 0)
numbers_of_atom (EqL a b) = (a, b, 0)
numbers_of_atom (EqC a b) = (a, b, 0)
numbers_of_atom (MagEq x y) = (0, 0, 0)
numbers_of_atom (MagLt x y) = (0, 0, 0)

-- those of the literal, if it has the mark
abbrev pub numbers_if : ℕ → Lit → List (ℕ × ℕ × ℕ)
numbers_if mark l = (if lit_mark l == mark then numbers_of_atom l.atom ∷ [] else [])

abbrev pub numbers_with : ℕ → List Lit → List (ℕ × ℕ × ℕ)
numbers_with mark facts = flat_map (numbers_if mark) facts

-- the numbers of the facts of each mark
pub record IsListing (facts : List Lit) (listing : List (List (ℕ × ℕ × ℕ))) : Type 0 where
  pub long : length listing ≡ 28
  pub at : (mark : ℕ) → mark < 28 → slice_index_or listing mark [] ≡ numbers_with mark facts

-- one fact's numbers are there besides
abbrev pub HasNumbersOf : List (List (ℕ × ℕ × ℕ)) → Lit → List (List (ℕ × ℕ × ℕ)) → Type 0
HasNumbersOf old fact new = new ≡ slice_set old (lit_mark fact)
    (slice_index_or old (lit_mark fact) [] ++ numbers_of_atom fact.atom ∷ [])
