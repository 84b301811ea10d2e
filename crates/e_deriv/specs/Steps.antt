-- What has to be so at a step beside what it has to be allowed: its objects are in scope,
-- and are as many and of the sorts that it takes. What it needs.
use Rattle.std.specs.Prelude.{ℕ, List, [], ◌∷◌, length, Bool, true, ◌&&◌, nat_lt, Option}
use Rattle.std.specs.List.{list_all}
use Rattle.e_literal.specs.declared.object.Obj.{Obj}
use Rattle.e_literal.specs.declared.object.Scope.{Scope}
use Rattle.e_literal.specs.declared.literal.Lit.{Lit}
use Rattle.e_literal.specs.Literal.{all_in_scope}
use Rattle.e_literal.specs.Use.{StatementView, needs_of_use}
pub use Rattle.e_clause.specs.Citing.{is_citation, instance_gives, is_cited}
use Rattle.e_construct.specs.Construct.{fits_construction, needs_of_construction}
use Rattle.e_construct.specs.Superposing as superposing
use Rattle.e_deriv.specs.Script.{Script, Cite, Hence, Make, Apply, Claim, Superposed, Qed}
use Rattle.e_deriv.specs.Script.{Contradiction, Cases}
use Rattle.e_deriv.specs.Goal.{Goal, are_for, goal_with}
use Rattle.e_theorem.specs.Choice.{is_choice}
use Rattle.e_deriv.specs.Parts.{args_of}
use Rattle.e_deriv.specs.PlacedSteps.{PlacedStep, theorem_at}

-- all objects of the literals are in scope
abbrev pub are_over : Scope → List Lit → Bool
are_over s ls = list_all (all_in_scope s) ls

-- the arguments fill the pattern and fit the theorem, which is one of those before
abbrev pub is_applied : List StatementView → ℕ → Scope → List (Option Obj) → List Obj → Bool
is_applied before theorem s pattern args =
    nat_lt theorem (length before) && is_choice (theorem_at before theorem) s pattern args

-- the step fits where it is; what a superposition shows does not speak of the copied points
abbrev pub fits_at : List StatementView → Script → Scope → Goal → List Obj → Bool
fits_at before (Cite by rest) s goal args = is_citation s by
fits_at before (Hence lit cert rest) s goal args = all_in_scope s lit
fits_at before (Make construction names certs rest) s goal args = fits_construction construction s
fits_at before (Apply theorem pattern names certs rest) s goal args =
    is_applied before theorem s pattern args
fits_at before (Claim shown inner rest) s goal args = are_over s shown
fits_at before (Superposed superposition names shown certs inner rest) s goal args =
    superposing.fits_superposition superposition s && are_over s shown
fits_at before (Qed objects certs) s goal args = are_for goal s objects
fits_at before (Contradiction against) s goal args = true
fits_at before (Cases lit first second) s goal args = all_in_scope s lit

-- the literals that the step needs, in order
abbrev pub needs_at : List StatementView → Script → Scope → Goal → List Obj → List Lit
needs_at before (Hence lit cert rest) s goal args = lit ∷ []
needs_at before (Make construction names certs rest) s goal args =
    needs_of_construction construction
needs_at before (Apply theorem pattern names certs rest) s goal args =
    needs_of_use (theorem_at before theorem) args s
needs_at before (Superposed superposition names shown certs inner rest) s goal args =
    superposing.needs_of_superposition superposition
needs_at before (Qed objects certs) s goal args = goal_with goal objects
needs_at before (Cite by rest) s goal args = []
needs_at before (Claim shown inner rest) s goal args = []
needs_at before (Contradiction against) s goal args = []
needs_at before (Cases lit first second) s goal args = []

abbrev pub fits : List StatementView → PlacedStep → Bool
fits before x = fits_at before x.here x.scope x.goal x.args

abbrev pub needs : List StatementView → PlacedStep → List Lit
needs before x = needs_at before x.here x.scope x.goal x.args

-- the needs of a step with the arguments that are written in it, where none is a blank
abbrev pub needs_as_written : List StatementView → PlacedStep → List Lit
needs_as_written before x = needs_at before x.here x.scope x.goal (args_of x.here)
