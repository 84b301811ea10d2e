-- The limits of a book.
use Rattle.std.specs.Prelude.{ℕ, ◌++◌, List, length, sum_by, nat_lt, Result, Ok, Err, if◌then◌else◌}
use Rattle.e_literal.specs.declared.object.Sort.{Sort}
use Rattle.e_literal.specs.declared.object.Sort.TheVariants as sorts
use Rattle.e_literal.specs.declared.literal.Atom.{Atom}
use Rattle.e_literal.specs.declared.literal.Atom.TheVariants as atoms
use Rattle.e_literal.specs.declared.literal.Lit.{Lit}
use Rattle.e_line.specs.declared.fault.FaultKind.{FaultKind}
use Rattle.e_line.specs.declared.fault.FaultKind.TheVariants.{Limit}
use Rattle.e_line.specs.declared.fault.What.{What}
use Rattle.e_line.specs.declared.fault.What.TheVariants as limits

-- theorems of a book
abbrev pub most_theorems : ℕ
most_theorems = 500

-- objects of a sort in scope
abbrev pub most_of : Sort → ℕ
most_of sorts.Point = 40
most_of sorts.Line = 24
most_of sorts.Circle = 16

-- step and close lines of a theorem
abbrev pub most_steps : ℕ
most_steps = 1024

-- blocks one inside the other
abbrev pub most_depth : ℕ
most_depth = 32

-- literals that are facts, repeats counted
abbrev pub most_facts : ℕ
most_facts = 2048

-- monomials of a literal, as it is written
abbrev pub most_monomials : ℕ
most_monomials = 32

-- a coefficient
abbrev pub most_coefficient : ℕ
most_coefficient = 1000000

-- monomials of the literals that are facts, repeats counted
abbrev pub most_monomials_of_facts : ℕ
most_monomials_of_facts = 1024

-- blanks of a line
abbrev pub most_blanks : ℕ
most_blanks = 6

-- definitions of a book
abbrev pub most_notions : ℕ
most_notions = 200

-- literals that items mean, in one theorem or one definition
abbrev pub most_expanded : ℕ
most_expanded = 4096

abbrev pub what_of : Sort → What
what_of sorts.Point = limits.Points
what_of sorts.Line = limits.Lines
what_of sorts.Circle = limits.Circles

-- at most this many, or the limit
abbrev pub within : ℕ → ℕ → What → Result (Unit {0}) FaultKind
within n most what = if nat_lt most n then Err (Limit what) else Ok tt

-- how many monomials an atom has
abbrev pub monomials : Atom → ℕ
monomials (atoms.MagEq x y) = length (x ++ y)
monomials (atoms.MagLt x y) = length (x ++ y)
monomials a = 0

abbrev pub count_monomials : List Lit → ℕ
count_monomials ls = sum_by (λ l. monomials l.atom) ls
