-- The names of the objects in scope, before each step of a script.
use Rattle.std.specs.Prelude.{ℕ, List, [], ◌∷◌, ◌++◌, take}
use Rattle.e_literal.specs.declared.object.Sort.{Sort}
use Rattle.e_literal.specs.declared.object.Sort.TheVariants as sorts
use Rattle.e_literal.specs.declared.object.Scope.{Scope}
use Rattle.e_literal.specs.Use.{StatementView, scope_of}
use Rattle.e_construct.specs.Construct.{sorts_made}
use Rattle.e_construct.specs.Superposing as superposing
use Rattle.e_deriv.specs.declared.names.Names.{Names}
use Rattle.e_deriv.specs.PlacedSteps.{theorem_at}
use Rattle.e_deriv.specs.Script.{Script, Cite, Hence, Make, Apply, Claim, Superposed, Qed}
use Rattle.e_deriv.specs.Script.{Contradiction, Cases}

-- the names of the objects of a sort
abbrev pub names_of_sort : Names → Sort → List (List ℕ)
names_of_sort ns sorts.Point = ns.points
names_of_sort ns sorts.Line = ns.lines
names_of_sort ns sorts.Circle = ns.circles

-- with other names for the objects of a sort
abbrev pub with_names : Names → Sort → List (List ℕ) → Names
with_names ns sorts.Point new = record ns { points = new }
with_names ns sorts.Line new = record ns { lines = new }
with_names ns sorts.Circle new = record ns { circles = new }

-- each new name after those of its sort, in order
abbrev pub with_new_names : Names → List Sort → List (List ℕ) → Names
with_new_names ns (sort ∷ kinds) (name ∷ names) =
    with_new_names (with_names ns sort (names_of_sort ns sort ++ name ∷ [])) kinds names
with_new_names ns _ _ = ns

-- the names in scope before each step, in text order, where these are in scope before the first;
-- those that an inner block brings are gone after it
unfoldable pub names_of_steps : List StatementView → Names → Script → List Names
names_of_steps before ns (Cite by rest) = ns ∷ names_of_steps before ns rest
names_of_steps before ns (Hence lit cert rest) = ns ∷ names_of_steps before ns rest
names_of_steps before ns (Make construction names certs rest) =
    ns ∷ names_of_steps before (with_new_names ns (sorts_made construction) names) rest
names_of_steps before ns (Apply theorem args names certs rest) =
    ns ∷ names_of_steps before (with_new_names ns (theorem_at before theorem).made names) rest
names_of_steps before ns (Claim shown inner rest) =
    ns ∷ (names_of_steps before ns inner ++ names_of_steps before ns rest)
names_of_steps before ns (Superposed superposition names shown certs inner rest) =
    ns ∷ (names_of_steps before (with_new_names ns superposing.sorts_copied names) inner
    ++ names_of_steps before ns rest)
names_of_steps before ns (Qed objects certs) = ns ∷ []
names_of_steps before ns (Contradiction against) = ns ∷ []
names_of_steps before ns (Cases lit first second) =
    ns ∷ (names_of_steps before ns first ++ names_of_steps before ns second)

-- the names of the objects of a scope, which are the first of each sort
abbrev pub first_names : Scope → Names → Names
first_names s ns =
    record {
      points = take s.points ns.points;
      lines = take s.lines ns.lines;
      circles = take s.circles ns.circles;
    }

-- of the names of a statement's declared and made objects those of the declared ones, which come
-- first
abbrev pub declared_names : StatementView → Names → Names
declared_names t ns = first_names (scope_of t) ns
