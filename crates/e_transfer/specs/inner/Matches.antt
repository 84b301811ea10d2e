-- The ways in which a goal at a place of a clause binds the variables.
use Rattle.std.specs.Prelude.{ℕ, List, [], ◌∷◌, ◌++◌, map, flat_map, Bool, not, ◌==◌, ◌||◌}
use Rattle.std.specs.Prelude.{◌≡◌, option_to_list, IsTrue, if◌then◌else◌}
use Rattle.std.specs.List.{list_all}
use Rattle.e_literal.specs.declared.object.Mono.{Mono}
use Rattle.e_literal.specs.declared.object.Term.{Term}
use Rattle.e_literal.specs.declared.object.Term.TheVariants.{Seg, Ang, Area, Right}
use Rattle.e_literal.specs.declared.literal.Lit.{Lit}
use Rattle.e_literal.specs.declared.literal.Atom.{Atom}
use Rattle.e_literal.specs.declared.literal.Atom.TheVariants.{MagEq, MagLt}
use Rattle.e_literal.specs.Same.{coeff_of, agree, same_atom, same_lit}
use Rattle.e_literal.specs.Rename.{mono_at, atom_at}
use Rattle.e_clause.specs.Rows.{Row}
use Rattle.e_transfer.specs.declared.equations.Equation.{Equation}
use Rattle.e_transfer.specs.declared.equations.Points.{Points}
use Rattle.e_transfer.specs.declared.equations.Points.TheVariants as points
use Rattle.e_transfer.specs.inner.Equations.{line_variable, circle_variable, some_agree}
use Rattle.e_transfer.specs.inner.Equations.{equations_from_term, equations_from_terms}

-- the atom, or the literal, of a row with these numbers for its variables
abbrev pub atom_under : Row → (ℕ → ℕ) → Atom → Atom
atom_under r f a = atom_at f (λ k. f (line_variable r k)) (λ k. f (circle_variable r k)) a

abbrev pub lit_under : Row → (ℕ → ℕ) → Lit → Lit
lit_under r f l = record { neg = l.neg; atom = atom_under r f l.atom }

-- the literal is the goal only where the variables are as one of the matches says
abbrev pub Cover : Row → Lit → Lit → List (List Equation) → Type 0
Cover r l goal matches =
    (f : ℕ → ℕ) → IsTrue (same_lit (lit_under r f l) goal) → IsTrue (some_agree f matches)

-- the same of atoms
abbrev pub CoverAtom : Row → Atom → Atom → List (List Equation) → Type 0
CoverAtom r a goal matches =
    (f : ℕ → ℕ) → IsTrue (same_atom (atom_under r f a) goal) → IsTrue (some_agree f matches)

-- the orders in which the points of a term may be written
abbrev pub term_orders : Term → List Term
term_orders (Seg a b) = Seg a b ∷ Seg b a ∷ []
term_orders (Ang a b c) = Ang a b c ∷ Ang c b a ∷ []
term_orders (Area a b c) =
    Area a b c ∷ Area a c b ∷ Area b a c ∷ Area b c a ∷ Area c a b ∷ Area c b a ∷ []
term_orders Right = Right ∷ []

-- the ways in which a term of a row may be one with the goal's
abbrev pub matches_of_term : Term → Term → List (List Equation)
matches_of_term term goal =
    flat_map (λ order. option_to_list (equations_from_term term order)) (term_orders goal)

-- the ways in which some term of a sum may be one with the goal's
abbrev pub matches_of_sum : Term → List Mono → List (List Equation)
matches_of_sum goal x = flat_map (λ m. matches_of_term m.term goal) x

-- the same, as points
abbrev pub points_of_term : Term → Term → List Points
points_of_term (Seg x y) (Seg a b) = points.Two x y a b ∷ points.Two x y b a ∷ []
points_of_term (Ang x y z) (Ang a b c) =
    points.Three x y z a b c ∷ points.Three x y z c b a ∷ []
points_of_term (Area x y z) (Area a b c) =
    points.Three x y z a b c ∷ points.Three x y z a c b ∷ points.Three x y z b a c
    ∷ points.Three x y z b c a ∷ points.Three x y z c a b ∷ points.Three x y z c b a ∷ []
points_of_term Right Right = points.Nothing ∷ []
points_of_term _ _ = []

abbrev pub points_of_sum : Term → List Mono → List Points
points_of_sum goal x = flat_map (λ m. points_of_term m.term goal) x

-- the ways in which two terms of a row may be one
abbrev pub cancellations_of_terms : Term → Term → List (List Equation)
cancellations_of_terms term other =
    flat_map (λ order. option_to_list (equations_from_terms term order)) (term_orders other)

-- the ways in which a term may be one with a term of a sum
abbrev pub cancellations_of_sum : Term → List Mono → List (List Equation)
cancellations_of_sum term y = flat_map (λ m. cancellations_of_terms term m.term) y

-- the ways in which two sums may cancel: the first term of the one is one of the other
abbrev pub cancelling_matches : List Mono → List Mono → List (List Equation)
cancelling_matches [] y = [] ∷ []
cancelling_matches (m ∷ ms) y = (if m.coeff == 0 then [] ∷ [] else cancellations_of_sum m.term y)

-- one match and another, both
abbrev pub match_product : List (List Equation) → List (List Equation) → List (List Equation)
match_product first second = flat_map (λ a. map (λ b. a ++ b) second) first

-- variables that are as one of the first matches says are as one of the second says
abbrev pub AgreeAlso : List (List Equation) → List (List Equation) → Type 0
AgreeAlso first second =
    (f : ℕ → ℕ) → IsTrue (some_agree f first) → IsTrue (some_agree f second)

-- the term does not occur in x - y
abbrev pub cancels : List Mono → List Mono → Term → Bool
cancels x y t = coeff_of x t == coeff_of y t

-- each of the terms occurs there
abbrev pub none_cancels : List Mono → List Mono → List Term → Bool
none_cancels x y ts = list_all (λ t. not (cancels x y t)) ts

-- no term of the sum occurs there
abbrev pub all_cancel : List Mono → List Mono → List Mono → Bool
all_cancel x y ms = list_all (λ m. cancels x y m.term) ms

-- the terms occur in x - y, and where there is none, no term does
abbrev pub AreTermsLeft : List Mono → List Mono → List Term → Type 0
AreTermsLeft x y ts = IsTrue (none_cancels x y ts)
    × (ts ≡ [] → IsTrue (all_cancel x y x) × IsTrue (all_cancel x y y))

-- the terms are left so of the atom's sums
abbrev pub AreTermsOf : Atom → List Term → Type 0
AreTermsOf (MagEq z w) ts = AreTermsLeft z w ts
AreTermsOf (MagLt z w) ts = AreTermsLeft z w ts
AreTermsOf _ ts = Unit {0}

abbrev pub sum_under : (ℕ → ℕ) → List Mono → List Mono
sum_under f x = map (mono_at f) x

-- x - y over variables has the normal form of z - w, or of its negative, only where the variables
-- are as one of the matches says
abbrev pub CoverSums : List Mono → List Mono → List Mono → List Mono → List (List Equation) → Type 0
CoverSums x y z w matches =
    (f : ℕ → ℕ) → IsTrue (agree (sum_under f x) (sum_under f y) z w
    || agree (sum_under f x) (sum_under f y) w z) → IsTrue (some_agree f matches)
