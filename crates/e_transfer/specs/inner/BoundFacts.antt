-- Which facts a literal of a clause may be, by what equations say of the variables.
use Rattle.std.specs.Prelude.{◌≡◌, ℕ, List, [], ◌∷◌, Bool, false, ◌&&◌, ◌==◌, IsTrue, Option, Some, None}
use Rattle.std.specs.Prelude.{slice_get, if◌then◌else◌}
use Rattle.std.specs.List.{list_any}
use Rattle.e_literal.specs.declared.literal.Atom.{Atom}
use Rattle.e_literal.specs.declared.literal.Atom.TheVariants.{On, OnC, Inside, Center, Between}
use Rattle.e_literal.specs.declared.literal.Atom.TheVariants.{Same, MeetLL, MeetLC, MeetCC, EqP}
use Rattle.e_literal.specs.declared.literal.Atom.TheVariants.{EqL, EqC, MagEq, MagLt}
use Rattle.e_literal.specs.declared.literal.Lit.{Lit}
use Rattle.e_literal.specs.declared.object.Obj.{Obj}
use Rattle.e_clause.specs.Rows.{Row}
use Rattle.e_clause.specs.Instance.{clause_of, lit_at, number}
use Rattle.e_transfer.specs.declared.equations.Equation.{Equation}
use Rattle.e_transfer.specs.declared.equations.Equation.TheVariants as equation
use Rattle.e_transfer.specs.declared.query.Strength.{Strength}
use Rattle.e_transfer.specs.GivenGoals.{IsFittingLiteral}
use Rattle.e_transfer.specs.Listings.{numbers_of_atom}
use Rattle.e_transfer.specs.Marks.{lit_mark}
use Rattle.e_transfer.specs.inner.Angles.{may_be}
use Rattle.e_transfer.specs.inner.Equations.{all_agree, line_variable, circle_variable}

-- the number of the variable, if the equations give it one
abbrev pub known_of : List Equation → ℕ → Option ℕ
known_of [] v = None
known_of (equation.Is w n ∷ es) v = if w == v then Some n else known_of es v
known_of (equation.Same w u ∷ es) v = known_of es v

abbrev pub known_line : Row → List Equation → ℕ → Option ℕ
known_line r es l = known_of es (line_variable r l)

abbrev pub known_circle : Row → List Equation → ℕ → Option ℕ
known_circle r es c = known_of es (circle_variable r c)

-- what is known of the numbers of a diagram atom over variables
abbrev pub known_of_atom : Row → List Equation → Atom → Option ℕ × Option ℕ × Option ℕ
known_of_atom r es (On x l) = (known_of es x, known_line r es l, None)
known_of_atom r es (OnC x c) = (known_of es x, known_circle r es c, None)
known_of_atom r es (Inside x c) = (known_of es x, known_circle r es c, None)
known_of_atom r es (Center x c) = (known_of es x, known_circle r es c, None)
known_of_atom r es (Between x y z) = (known_of es x, known_of es y, known_of es z)
known_of_atom r es (Same x y l) = (known_of es x, known_of es y, known_line r es l)
known_of_atom r es (MeetLL l m) = (known_line r es l, known_line r es m, None)
known_of_atom r es (MeetLC l c) = (known_line r es l, known_circle r es c, None)
known_of_atom r es (MeetCC c d) = (known_circle r es c, known_circle r es d, None)
known_of_atom r es (EqP x y) = (known_of es x, known_of es y, None)
known_of_atom r es (EqL l m) = (known_line r es l, known_line r es m, None)
known_of_atom r es (EqC c d) = (known_circle r es c, known_circle r es d, None)
known_of_atom r es (MagEq x y) = (None, None, None)
known_of_atom r es (MagLt x y) = (None, None, None)

-- the numbers are those that are known
abbrev pub fits : Option ℕ × Option ℕ × Option ℕ → ℕ × ℕ × ℕ → Bool
fits known numbers =
    may_be known.0 numbers.0 && (may_be known.1 numbers.1 && may_be known.2 numbers.2)

-- a fact with the mark has such numbers
abbrev pub may_be_among : ℕ → Option ℕ × Option ℕ × Option ℕ → List Lit → Bool
may_be_among mark known facts =
    list_any (λ f. lit_mark f == mark && fits known (numbers_of_atom f.atom)) facts

-- no instance whose variables are so has at this place of the clause the goal, or a literal whose
-- negation suffices
abbrev pub NoneHoldsWith : Strength → List Lit → Lit → Row → List Equation → ℕ → Type 0
NoneHoldsWith m facts goal r es at =
    (l : Lit) → slice_get (clause_of r) at ≡ Some l → (args : List Obj)
    → IsTrue (all_agree (number args) es)
    → IsFittingLiteral m facts goal false (lit_at r args l) → ⊥
