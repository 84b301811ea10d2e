-- A number for each metric atom, the same for atoms that are the same: most that are not the same
-- differ in it.
use Rattle.std.specs.Prelude.{ℕ, ◌+◌, ◌*◌, ◌%◌, List}
use Rattle.std.specs.Int.{abs_diff}
use Rattle.e_literal.specs.declared.object.Term.{Term}
use Rattle.e_literal.specs.declared.object.Term.TheVariants.{Seg, Ang, Area, Right}
use Rattle.e_literal.specs.declared.object.Mono.{Mono}
use Rattle.e_literal.specs.declared.literal.Atom.{Atom}
use Rattle.e_literal.specs.declared.literal.Atom.TheVariants.{MagEq, MagLt}
use Rattle.e_literal.specs.Truth.{value_of}
use Rattle.e_literal.specs.Solution.{values_for_all}

-- the square modulo a prime below 2^30
unfoldable pub square_residue : ℕ → ℕ
square_residue n = n * n % 1073741789

-- a number for a term that is written one way
abbrev pub term_number : Term → ℕ
term_number (Seg a b) = square_residue (a + 251 * b)
term_number (Ang a b c) = square_residue (a + 251 * b + 63001 * c)
term_number (Area a b c) = square_residue (a + 251 * b + 63001 * c)
term_number Right = 1

-- the value of a sum where each term has its number
abbrev pub sum_weight : List Mono → ℕ
sum_weight sum = value_of (values_for_all term_number) sum

-- how far the sums of a metric atom are from each other
unfoldable pub fingerprint : Atom → ℕ
fingerprint (MagEq x y) = abs_diff (sum_weight x) (sum_weight y)
fingerprint (MagLt x y) = abs_diff (sum_weight x) (sum_weight y)
fingerprint _ = 0
