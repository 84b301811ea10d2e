-- What a goal says of the variables of a rule: each is named by its place among the rule's
-- arguments.
use Rattle.std.specs.Prelude.{ℕ, ◌+◌, List, [], ◌∷◌, Bool, false, not, ◌==◌, ◌&&◌, Option}
use Rattle.std.specs.Prelude.{Some, None}
use Rattle.std.specs.List.{list_all, list_any}
use Rattle.e_literal.specs.declared.literal.Atom.{Atom}
use Rattle.e_literal.specs.declared.literal.Atom.TheVariants.{On, OnC, Inside, Center, Between}
use Rattle.e_literal.specs.declared.literal.Atom.TheVariants.{Same, MeetLL, MeetLC, MeetCC, EqP}
use Rattle.e_literal.specs.declared.literal.Atom.TheVariants.{EqL, EqC}
use Rattle.e_literal.specs.declared.object.Term.{Term}
use Rattle.e_literal.specs.declared.object.Term.TheVariants.{Seg, Ang, Area, Right}
use Rattle.e_clause.specs.Rows.{Row}
use Rattle.e_transfer.specs.declared.equations.Equation.{Equation}
use Rattle.e_transfer.specs.declared.equations.Equation.TheVariants as equation
use Rattle.e_transfer.specs.declared.equations.Points.{Points}
use Rattle.e_transfer.specs.declared.equations.Points.TheVariants as points

-- the numbers of the variables are as it says
abbrev pub agrees : (ℕ → ℕ) → Equation → Bool
agrees f (equation.Is v n) = f v == n
agrees f (equation.Same v w) = f v == f w

abbrev pub all_agree : (ℕ → ℕ) → List Equation → Bool
all_agree f bs = list_all (agrees f) bs

-- the two give one variable two numbers
abbrev pub contrary : Equation → Equation → Bool
contrary (equation.Is v n) (equation.Is w m) = v == w && not (n == m)
contrary _ _ = false

abbrev pub have_contrary : List Equation → List Equation → Bool
have_contrary first second = list_any (λ a. list_any (contrary a) second) first

-- they are as one of the matches says
abbrev pub some_agree : (ℕ → ℕ) → List (List Equation) → Bool
some_agree f matches = list_any (all_agree f) matches

-- ---- diagram atoms

abbrev pub line_variable : Row → ℕ → ℕ
line_variable r l = r.points + l

abbrev pub circle_variable : Row → ℕ → ℕ
circle_variable r c = r.points + r.lines + c

abbrev pub both_equations : ℕ → ℕ → ℕ → ℕ → Option (List Equation)
both_equations v n w m = Some (equation.Is v n ∷ equation.Is w m ∷ [])

abbrev pub all_three : ℕ → ℕ → ℕ → ℕ → ℕ → ℕ → Option (List Equation)
all_three v n w m u k = Some (equation.Is v n ∷ equation.Is w m ∷ equation.Is u k ∷ [])

-- the atom of a row is the goal where its variables are the goal's objects, place by place
abbrev pub equations_from_atom : Row → Atom → Atom → Option (List Equation)
equations_from_atom r (On x l) (On a b) = both_equations x a (line_variable r l) b
equations_from_atom r (OnC x c) (OnC a b) = both_equations x a (circle_variable r c) b
equations_from_atom r (Inside x c) (Inside a b) = both_equations x a (circle_variable r c) b
equations_from_atom r (Center x c) (Center a b) = both_equations x a (circle_variable r c) b
equations_from_atom r (Between x y z) (Between a b c) = all_three x a y b z c
equations_from_atom r (Same x y l) (Same a b c) = all_three x a y b (line_variable r l) c
equations_from_atom r (MeetLL l m) (MeetLL a b) =
    both_equations (line_variable r l) a (line_variable r m) b
equations_from_atom r (MeetLC l c) (MeetLC a b) =
    both_equations (line_variable r l) a (circle_variable r c) b
equations_from_atom r (MeetCC c d) (MeetCC a b) =
    both_equations (circle_variable r c) a (circle_variable r d) b
equations_from_atom r (EqP x y) (EqP a b) = both_equations x a y b
equations_from_atom r (EqL l m) (EqL a b) =
    both_equations (line_variable r l) a (line_variable r m) b
equations_from_atom r (EqC c d) (EqC a b) =
    both_equations (circle_variable r c) a (circle_variable r d) b
equations_from_atom r _ _ = None

-- ---- terms

-- the term of a row is the goal's, point by point
abbrev pub equations_from_term : Term → Term → Option (List Equation)
equations_from_term (Seg x y) (Seg a b) = both_equations x a y b
equations_from_term (Ang x y z) (Ang a b c) = all_three x a y b z c
equations_from_term (Area x y z) (Area a b c) = all_three x a y b z c
equations_from_term Right Right = Some []
equations_from_term _ _ = None

-- what is known where the variables of a term are these points
abbrev pub equations_of_points : Points → List Equation
equations_of_points points.Nothing = []
equations_of_points (points.Two x y a b) = equation.Is x a ∷ equation.Is y b ∷ []
equations_of_points (points.Three x y z a b c) =
    equation.Is x a ∷ equation.Is y b ∷ equation.Is z c ∷ []

-- two terms of a row are one, point by point
abbrev pub equations_from_terms : Term → Term → Option (List Equation)
equations_from_terms (Seg x y) (Seg a b) = Some (equation.Same x a ∷ equation.Same y b ∷ [])
equations_from_terms (Ang x y z) (Ang a b c) =
    Some (equation.Same x a ∷ equation.Same y b ∷ equation.Same z c ∷ [])
equations_from_terms (Area x y z) (Area a b c) =
    Some (equation.Same x a ∷ equation.Same y b ∷ equation.Same z c ∷ [])
equations_from_terms Right Right = Some []
equations_from_terms _ _ = None
