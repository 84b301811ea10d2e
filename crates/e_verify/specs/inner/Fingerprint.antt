-- A number for each literal, the same for literals that are the same: most literals that are not
-- the same differ in it.
use Rattle.std.specs.Prelude.{ℕ, ◌+◌, ◌*◌, ◌%◌, List}
use Rattle.std.specs.Int.{abs_diff}
use Rattle.e_literal.specs.declared.object.Term.{Term}
use Rattle.e_literal.specs.declared.object.Term.TheVariants.{Seg, Ang, Area, Right}
use Rattle.e_literal.specs.declared.object.Mono.{Mono}
use Rattle.e_literal.specs.declared.literal.Atom.{Atom}
use Rattle.e_literal.specs.declared.literal.Atom.TheVariants.{On, OnC, Inside, Center, Between}
use Rattle.e_literal.specs.declared.literal.Atom.TheVariants.{Same, MeetLL, MeetLC, MeetCC, EqP}
use Rattle.e_literal.specs.declared.literal.Atom.TheVariants.{EqL, EqC, MagEq, MagLt}
use Rattle.e_literal.specs.Truth.{value_of}
use Rattle.e_literal.specs.Solution.{values_for_all}

-- the square modulo a prime below 2^30
unfoldable pub square_residue : ℕ → ℕ
square_residue n = n * n % 1073741789

-- a number for a term that is written one way
abbrev pub term_number : Term → ℕ
term_number (Seg a b) = square_residue (a + 251 * b)
term_number (Ang a b c) = square_residue (a + 251 * b + 63001 * c)
term_number (Area a b c) = square_residue (a + 251 * b + 63001 * c)
term_number Right = 1

-- the value of a sum where each term has its number
abbrev pub sum_weight : List Mono → ℕ
sum_weight sum = value_of (values_for_all term_number) sum

abbrev pub packed_number : ℕ → ℕ → ℕ → ℕ → ℕ
packed_number kind a b c = ((kind * 65536 + a) * 65536 + b) * 65536 + c

-- how far the sums of a metric atom are from each other; for any other its kind and its objects
unfoldable pub atom_fingerprint : Atom → ℕ
atom_fingerprint (On a b) = packed_number 1 a b 0
atom_fingerprint (OnC a b) = packed_number 2 a b 0
atom_fingerprint (Inside a b) = packed_number 3 a b 0
atom_fingerprint (Center a b) = packed_number 4 a b 0
atom_fingerprint (Between a b c) = packed_number 5 a b c
atom_fingerprint (Same a b c) = packed_number 6 a b c
atom_fingerprint (MeetLL a b) = packed_number 7 a b 0
atom_fingerprint (MeetLC a b) = packed_number 8 a b 0
atom_fingerprint (MeetCC a b) = packed_number 9 a b 0
atom_fingerprint (EqP a b) = packed_number 10 a b 0
atom_fingerprint (EqL a b) = packed_number 11 a b 0
atom_fingerprint (EqC a b) = packed_number 12 a b 0
atom_fingerprint (MagEq x y) = abs_diff (sum_weight x) (sum_weight y)
atom_fingerprint (MagLt x y) = abs_diff (sum_weight x) (sum_weight y)
