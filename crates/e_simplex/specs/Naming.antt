-- Rows over terms as constraints over numbered columns: column 0 has the constants, and the terms
-- follow in order.
use Rattle.std.specs.Prelude.{◌≡◌, ℕ, suc, ◌<◌, ◌≤◌, cond, not, Bool, List, [], ◌∷◌, length, get_or}
use Rattle.e_literal.specs.declared.object.Term.{Term}
use Rattle.e_literal.specs.declared.object.Term.TheVariants.{Right}
use Rattle.e_literal.specs.Same.{term_eq}
use Rattle.e_literal.specs.Rows.{Row, Sense, Zero, AtLeast, More, Not, Summands}
use Rattle.e_simplex.specs.declared.constraints.Monomial.{Monomial}
use Rattle.e_simplex.specs.declared.constraints.Constraint.{Constraint}
use Rattle.e_simplex.specs.declared.constraints.ConstraintSense.{ConstraintSense}
use Rattle.e_simplex.specs.declared.constraints.ConstraintSense.TheVariants as senses

-- where the term comes first, or the length of the list
abbrev pub place_of : List Term → Term → ℕ
place_of [] t = 0
place_of (x ∷ xs) t = cond (term_eq t x) 0 (suc (place_of xs t))

abbrev pub IsIn : List Term → Term → Type 0
IsIn ts t = place_of ts t < length ts

-- no term comes twice
abbrev pub AreOnce : List Term → Type 0
AreOnce ts = (c : ℕ) → c < length ts → place_of ts (get_or ts c Right) ≡ c

-- further terms come after the first ones, whose places stay
pub record Continues (ts us : List Term) : Type 0 where
  pub longer : length ts ≤ length us
  pub places : (t : Term) → IsIn ts t → place_of us t ≡ place_of ts t

-- each term of the form is in the list
abbrev pub FormNamed : List Term → Summands → Type 0
FormNamed ts [] = Unit {0}
FormNamed ts (p ∷ ps) = IsIn ts p.1 × FormNamed ts ps

abbrev pub AllNamed : List Term → List Row → Type 0
AllNamed ts [] = Unit {0}
AllNamed ts (r ∷ rs) = FormNamed ts r.form × AllNamed ts rs

abbrev pub named_form : List Term → Summands → List Monomial
named_form ts [] = []
named_form ts (p ∷ ps) =
    record { coefficient = p.0; column = suc (place_of ts p.1) } ∷ named_form ts ps

-- a row that says `not 0` becomes a constraint that says `more`
abbrev pub constraint_sense : Sense → ConstraintSense
constraint_sense Zero = senses.Zero
constraint_sense AtLeast = senses.AtLeast
constraint_sense More = senses.More
constraint_sense Not = senses.More

abbrev pub named_constraint : List Term → Row → Constraint
named_constraint ts r = record { sense = constraint_sense r.sense; form = named_form ts r.form }

-- whether a row is wanted: those that say `not 0`, or the others
abbrev pub keeps : Bool → Sense → Bool
keeps b Not = b
keeps b _ = not b

-- the constraints of the rows that say `not 0`, or of the others
abbrev pub named_constraints : Bool → List Term → List Row → List Constraint
named_constraints b ts [] = []
named_constraints b ts (r ∷ rs) =
    cond (keeps b r.sense) (named_constraint ts r ∷ named_constraints b ts rs)
    (named_constraints b ts rs)
