-- A mark for each literal that compares sums, the same for literals that are the same: what has a
-- mark that neither the goal nor a fact has is neither.
use Rattle.std.specs.Prelude.{ℕ, ◌+◌, ◌*◌, ◌%◌, List, Bool, false, slice_index_or}
use Rattle.std.specs.Int.{abs_diff}
use Rattle.std.specs.List.{list_all}
use Rattle.e_literal.specs.declared.object.Term.{Term}
use Rattle.e_literal.specs.declared.object.Term.TheVariants.{Seg, Ang, Area, Right}
use Rattle.e_literal.specs.declared.object.Mono.{Mono}
use Rattle.e_literal.specs.declared.literal.Atom.{Atom}
use Rattle.e_literal.specs.declared.literal.Atom.TheVariants.{MagEq, MagLt}
use Rattle.e_literal.specs.declared.literal.Lit.{Lit}
use Rattle.e_literal.specs.Truth.{value_of}
use Rattle.e_literal.specs.Solution.{values_for_all}

-- the square modulo a prime below 2^30
unfoldable pub mixed_number : ℕ → ℕ
mixed_number n = n * n % 1073741789

-- a number for a term that is written one way
abbrev pub mark_of_term : Term → ℕ
mark_of_term (Seg a b) = mixed_number (a + 251 * b)
mark_of_term (Ang a b c) = mixed_number (a + 251 * b + 63001 * c)
mark_of_term (Area a b c) = mixed_number (a + 251 * b + 63001 * c)
mark_of_term Right = 1

-- the value of a sum where each term has its number
abbrev pub mark_total : List Mono → ℕ
mark_total sum = value_of (values_for_all mark_of_term) sum

-- how far two totals are from each other, folded
unfoldable pub folded_distance : ℕ → ℕ → ℕ
folded_distance x y = abs_diff x y % 256

abbrev pub sum_mark : Atom → ℕ
sum_mark (MagEq x y) = folded_distance (mark_total x) (mark_total y)
sum_mark (MagLt x y) = folded_distance (mark_total x) (mark_total y)
sum_mark _ = 0

-- there is a mark for the literal
abbrev pub has_sum_mark : List Bool → Lit → Bool
has_sum_mark marks l = slice_index_or marks (sum_mark l.atom) false

abbrev pub have_sum_marks : List Bool → List Lit → Bool
have_sum_marks marks facts = list_all (has_sum_mark marks) facts
