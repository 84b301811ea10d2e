-- The arguments of a rule by the first numbers of a choice.
use Rattle.std.specs.Prelude.{ℕ, ◌+◌, List, [], ◌∷◌, ◌++◌, map, slice_index, nat_lt, if◌then◌else◌}
use Rattle.std.specs.Prelude.{max}
use Rattle.e_literal.specs.declared.literal.Atom.{Atom}
use Rattle.e_literal.specs.declared.literal.Atom.TheVariants.{On, OnC, Inside, Center, Between}
use Rattle.e_literal.specs.declared.literal.Atom.TheVariants.{Same, MeetLL, MeetLC, MeetCC, EqP}
use Rattle.e_literal.specs.declared.literal.Atom.TheVariants.{EqL, EqC, MagEq, MagLt}
use Rattle.e_literal.specs.declared.object.Mono.{Mono}
use Rattle.e_literal.specs.declared.object.Obj.{Obj}
use Rattle.e_literal.specs.declared.object.Sort.{Sort}
use Rattle.e_literal.specs.declared.object.Sort.TheVariants.{Point, Line, Circle}
use Rattle.e_literal.specs.declared.object.Term.{Term}
use Rattle.e_literal.specs.declared.object.Term.TheVariants.{Seg, Ang, Area, Right}
use Rattle.e_literal.specs.Literal.{obj}
use Rattle.e_clause.specs.Instance.{number, atom_at, line_arg, circle_arg}
use Rattle.e_clause.specs.Rows.{Row}
use Rattle.e_clause.specs.Views.{row_of}
use Rattle.e_transfer.specs.declared.numbers.Numbers.{Numbers}
use Rattle.e_transfer.specs.inner.Equations.{line_variable, circle_variable}

-- the sort of a variable: points come first, then lines, then circles
abbrev pub variable_sort : Row → ℕ → Sort
variable_sort r v =
    (if nat_lt v r.points then Point else (if nat_lt v (r.points + r.lines) then Line else Circle))

-- the variables from v on, each with the number that the choice has at its place, or 0
abbrev pub arguments_from : Row → List ℕ → ℕ → List ℕ → List Obj
arguments_from r c v [] = []
arguments_from r c v (p ∷ ps) =
    obj (variable_sort r v) (slice_index c p) ∷ arguments_from r c (v + 1) ps

abbrev pub chosen_arguments : Row → List ℕ → List ℕ → List Obj
chosen_arguments r positions c = arguments_from r c 0 positions

-- those by the first numbers of a choice, and the atom with them
abbrev pub arguments_by : Numbers → List Obj
arguments_by n = chosen_arguments (row_of n.row.now) n.positions.now n.part.now

abbrev pub atom_by : Numbers → Atom → Atom
atom_by n a =
    atom_at (number (arguments_by n)) (line_arg (row_of n.row.now) (arguments_by n))
    (circle_arg (row_of n.row.now) (arguments_by n)) a

-- ---- the last place in the order of a literal's variables

abbrev pub term_last : List ℕ → Term → ℕ
term_last positions (Seg x y) = max (slice_index positions x) (slice_index positions y)
term_last positions (Ang x y z) =
    max (max (slice_index positions x) (slice_index positions y)) (slice_index positions z)
term_last positions (Area x y z) =
    max (max (slice_index positions x) (slice_index positions y)) (slice_index positions z)
term_last positions Right = 0

abbrev pub sum_last : List ℕ → List Mono → ℕ
sum_last positions [] = 0
sum_last positions (m ∷ ms) = max (term_last positions m.term) (sum_last positions ms)

-- the last of two places, or of three
abbrev pub last_of_two : List ℕ → ℕ → ℕ → ℕ
last_of_two positions v w = max (slice_index positions v) (slice_index positions w)

abbrev pub last_of_three : List ℕ → ℕ → ℕ → ℕ → ℕ
last_of_three positions v w u =
    max (max (slice_index positions v) (slice_index positions w)) (slice_index positions u)

abbrev pub atom_last : Row → List ℕ → Atom → ℕ
atom_last r positions (On x l) = last_of_two positions x (line_variable r l)
atom_last r positions (OnC x c) = last_of_two positions x (circle_variable r c)
atom_last r positions (Inside x c) = last_of_two positions x (circle_variable r c)
atom_last r positions (Center x c) = last_of_two positions x (circle_variable r c)
atom_last r positions (Between x y z) = last_of_three positions x y z
atom_last r positions (Same x y l) = last_of_three positions x y (line_variable r l)
atom_last r positions (MeetLL l m) = last_of_two positions (line_variable r l) (line_variable r m)
atom_last r positions (MeetLC l c) = last_of_two positions (line_variable r l) (circle_variable r c)
atom_last r positions (MeetCC c d) =
    last_of_two positions (circle_variable r c) (circle_variable r d)
atom_last r positions (EqP x y) = last_of_two positions x y
atom_last r positions (EqL l m) = last_of_two positions (line_variable r l) (line_variable r m)
atom_last r positions (EqC c d) = last_of_two positions (circle_variable r c) (circle_variable r d)
atom_last r positions (MagEq x y) = max (sum_last positions x) (sum_last positions y)
atom_last r positions (MagLt x y) = max (sum_last positions x) (sum_last positions y)

-- the last places of the literals of the clause
abbrev pub ready_at_of : Row → List ℕ → List ℕ
ready_at_of r positions =
    map (λ l. atom_last r positions l.atom) r.premises
    ++ map (λ l. atom_last r positions l.atom) r.conclusions
