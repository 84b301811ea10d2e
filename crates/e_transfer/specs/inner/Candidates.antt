-- Which numbers may come next: those with which a literal that has to be a fact may be one.
use Rattle.std.specs.Prelude.{◌≡◌, ℕ, List, [], ◌++◌, ◌∷◌, Bool, false, ◌==◌, Option, Some, None}
use Rattle.std.specs.Prelude.{slice_get, option_and_then, length}
use Rattle.std.specs.List.{list_any}
use Rattle.std.specs.Option.{option_map_or}
use Rattle.e_literal.specs.declared.literal.Atom.{Atom}
use Rattle.e_literal.specs.declared.literal.Atom.TheVariants.{On, OnC, Inside, Center, Between}
use Rattle.e_literal.specs.declared.literal.Atom.TheVariants.{Same, MeetLL, MeetLC, MeetCC, EqP}
use Rattle.e_literal.specs.declared.literal.Atom.TheVariants.{EqL, EqC, MagEq, MagLt}
use Rattle.e_literal.specs.declared.object.Term.{Term}
use Rattle.e_literal.specs.declared.object.Term.TheVariants.{Seg, Ang, Area, Right}
use Rattle.e_clause.specs.Rows.{Row}
use Rattle.e_transfer.specs.declared.candidates.Slot.{Slot}
use Rattle.e_transfer.specs.declared.candidates.Slot.TheVariants as slot
use Rattle.e_transfer.specs.inner.BoundFacts.{fits}
use Rattle.e_transfer.specs.inner.Equations.{line_variable, circle_variable}

-- the variables of a diagram atom, in the order of its numbers
abbrev pub variables_of_atom : Row → Atom → Option ℕ × Option ℕ × Option ℕ
variables_of_atom r (On x l) = (Some x, Some (line_variable r l), None)
variables_of_atom r (OnC x c) = (Some x, Some (circle_variable r c), None)
variables_of_atom r (Inside x c) = (Some x, Some (circle_variable r c), None)
variables_of_atom r (Center x c) = (Some x, Some (circle_variable r c), None)
variables_of_atom r (Between x y z) = (Some x, Some y, Some z)
variables_of_atom r (Same x y l) = (Some x, Some y, Some (line_variable r l))
variables_of_atom r (MeetLL l m) = (Some (line_variable r l), Some (line_variable r m), None)
variables_of_atom r (MeetLC l c) = (Some (line_variable r l), Some (circle_variable r c), None)
variables_of_atom r (MeetCC c d) = (Some (circle_variable r c), Some (circle_variable r d), None)
variables_of_atom r (EqP x y) = (Some x, Some y, None)
variables_of_atom r (EqL l m) = (Some (line_variable r l), Some (line_variable r m), None)
variables_of_atom r (EqC c d) = (Some (circle_variable r c), Some (circle_variable r d), None)
variables_of_atom r (MagEq x y) = (None, None, None)
variables_of_atom r (MagLt x y) = (None, None, None)

-- the variables of a term, in the order of its points
abbrev pub variables_of_term : Term → Option ℕ × Option ℕ × Option ℕ
variables_of_term (Seg x y) = (Some x, Some y, None)
variables_of_term (Ang x y z) = (Some x, Some y, Some z)
variables_of_term (Area x y z) = (Some x, Some y, Some z)
variables_of_term Right = (None, None, None)

-- the number of the variable, if it is among the first numbers of a choice
abbrev pub known_number : List ℕ → List ℕ → Option ℕ → Option ℕ
known_number positions part None = None
known_number positions part (Some v) = option_and_then (slice_get part) (slice_get positions v)

-- the next number is that of the variable
abbrev pub is_next : List ℕ → List ℕ → Option ℕ → Bool
is_next positions part None = false
is_next positions part (Some v) =
    option_map_or (λ p. p == length part) (slice_get positions v) false

abbrev pub known_numbers : List ℕ → List ℕ → Option ℕ × Option ℕ × Option ℕ
    → Option ℕ × Option ℕ × Option ℕ
known_numbers positions part vs = (
  known_number positions part vs.0,
  known_number positions part vs.1,
  known_number positions part vs.2,
)

-- one of three, by its place
abbrev pub option_at : Slot → Option ℕ × Option ℕ × Option ℕ → Option ℕ
option_at slot.First k = k.0
option_at slot.Second k = k.1
option_at slot.Third k = k.2

abbrev pub number_at : Slot → ℕ × ℕ × ℕ → ℕ
number_at slot.First t = t.0
number_at slot.Second t = t.1
number_at slot.Third t = t.2

-- the three with another one at a place
abbrev pub with_option : Slot → Option ℕ → Option ℕ × Option ℕ × Option ℕ
    → Option ℕ × Option ℕ × Option ℕ
with_option slot.First o k = (o, k.1, k.2)
with_option slot.Second o k = (k.0, o, k.2)
with_option slot.Third o k = (k.0, k.1, o)

-- a number that is marked false is at this place of none of the triples that fit
abbrev pub AreSeen : Option ℕ × Option ℕ × Option ℕ → Slot → List (ℕ × ℕ × ℕ) → List Bool → Type 0
AreSeen known place triples seen =
    (n : ℕ) → slice_get seen n ≡ Some false
    → list_any (fits (with_option place (Some n) known)) triples ≡ false

-- the numbers of variables under a reading of them, with 0 where there is none
abbrev pub number_by : (ℕ → ℕ) → Option ℕ → ℕ
number_by f None = 0
number_by f (Some v) = f v

abbrev pub numbers_by : (ℕ → ℕ) → Option ℕ × Option ℕ × Option ℕ → ℕ × ℕ × ℕ
numbers_by f vs = (number_by f vs.0, number_by f vs.1, number_by f vs.2)
