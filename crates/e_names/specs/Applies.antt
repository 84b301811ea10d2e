-- Uses of earlier theorems, with the objects of their names.
use Rattle.std.specs.Prelude.{ℕ, ◌==◌, List, [], ◌∷◌, length, Option, Some, None, Result, Ok, Err}
use Rattle.std.specs.Prelude.{filter, is_none}
use Rattle.e_literal.specs.declared.object.Sort.{Sort}
use Rattle.e_literal.specs.declared.object.Obj.{Obj}
use Rattle.e_deriv.specs.declared.names.Names.{Names}
use Rattle.e_line.specs.declared.fault.FaultKind.{FaultKind}
use Rattle.e_line.specs.declared.fault.FaultKind.TheVariants.{UnknownName}
use Rattle.e_line.specs.declared.applies.RawApply.{RawApply}
use Rattle.e_line.specs.Reading.{◌>>=◌}
use Rattle.e_names.specs.TitledStatements.{TitledStatement, place_in, theorem_of}
use Rattle.e_names.specs.Scope.{object_as, fresh, right_count}

-- ---- with the objects of its names

abbrev pub known_place : Option ℕ → Result ℕ FaultKind
known_place None = Err UnknownName
known_place (Some k) = Ok k

-- what is given for a declared object of a sort: an object of this sort, or a blank
abbrev pub entry_in : Names → Sort → Option (List ℕ) → Result (Option Obj) FaultKind
entry_in ns sort None = Ok None
entry_in ns sort (Some name) = object_as ns sort name >>= λ o. Ok (Some o)

-- an entry for each sort, in order
abbrev pub entries_in : Names → List Sort → List (Option (List ℕ))
    → Result (List (Option Obj)) FaultKind
entries_in ns (sort ∷ sorts) (name ∷ names) =
    entry_in ns sort name >>= λ o. entries_in ns sorts names >>= λ os. Ok (o ∷ os)
entries_in ns _ _ = Ok []

abbrev pub count_blanks : List (Option Obj) → ℕ
count_blanks pattern = length (filter is_none pattern)

-- the title, then how many arguments and new names there are, then the arguments, then the new
-- names, from left to right: the place of the theorem, and what is given for its declared
-- objects
unfoldable pub apply_in : List TitledStatement → Names → RawApply
    → Result (ℕ × List (Option Obj)) FaultKind
apply_in known ns raw = do
  k ← known_place (place_in known raw.title)
  some ← right_count (length raw.args == length (theorem_of known k).declared)
  more ← right_count (length raw.new == length (theorem_of known k).made)
  args ← entries_in ns (theorem_of known k).declared raw.args
  free ← fresh ns [] raw.new
  Ok (k, args)
