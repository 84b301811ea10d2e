-- Superpositions, with the objects of their names.
use Rattle.std.specs.Prelude.{ℕ, List, [], ◌∷◌, Result, Ok, Err}
use Rattle.e_literal.specs.declared.object.Sort.TheVariants as sorts
use Rattle.e_literal.specs.declared.literal.Lit.{Lit}
use Rattle.e_construct.specs.declared.superpose.Superpose.{Superpose}
use Rattle.e_deriv.specs.declared.names.Names.{Names}
use Rattle.e_line.specs.declared.fault.FaultKind.{FaultKind}
use Rattle.e_line.specs.declared.fault.FaultKind.TheVariants.{Malformed}
use Rattle.e_line.specs.declared.superposes.RawSuperpose.{RawSuperpose}
use Rattle.e_line.specs.Reading.{◌>>=◌}
use Rattle.e_names.specs.Scope.{number_of_name, fresh, lits_in}

-- the superposition of these points and lines
abbrev pub superpose : (a b c d g h K L : ℕ) → Superpose
superpose a b c d g h K L = record { points = a ∷ b ∷ c ∷ d ∷ g ∷ h ∷ []; lines = K ∷ L ∷ [] }

-- the triangle and its line, then the place and its line, in the order of the line of text
unfoldable pub placed_in : Names → List (List ℕ) → Result Superpose FaultKind
placed_in ns (a ∷ b ∷ c ∷ k ∷ d ∷ g ∷ h ∷ l ∷ []) = do
  na ← number_of_name ns sorts.Point a
  nb ← number_of_name ns sorts.Point b
  nc ← number_of_name ns sorts.Point c
  nk ← number_of_name ns sorts.Line k
  nd ← number_of_name ns sorts.Point d
  ng ← number_of_name ns sorts.Point g
  nh ← number_of_name ns sorts.Point h
  nl ← number_of_name ns sorts.Line l
  Ok (superpose na nb nc nd ng nh nk nl)
placed_in ns _ = Err Malformed

-- the objects, then the new names, then the literals, in which the new names are not in scope yet
unfoldable pub superpose_in : Names → RawSuperpose → Result (Superpose × List Lit) FaultKind
superpose_in ns raw = do
  superposition ← placed_in ns raw.args
  free ← fresh ns [] raw.new
  ls ← lits_in ns raw.shown
  Ok (superposition, ls)
