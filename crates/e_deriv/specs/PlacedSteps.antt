-- The steps of a script in text order, each with what holds before it.
use Rattle.std.specs.Prelude.{ℕ, ◌+◌, List, [], ◌∷◌, ◌++◌, Bool, slice_get, unwrap_or, Result, Ok}
use Rattle.std.specs.Prelude.{Err, if◌then◌else◌}
use Rattle.e_literal.specs.declared.object.Obj.{Obj}
use Rattle.e_literal.specs.declared.object.Scope.{Scope}
use Rattle.e_literal.specs.declared.literal.Lit.{Lit}
use Rattle.e_literal.specs.Literal.{negation}
use Rattle.e_literal.specs.Facts.{with_fact, with_facts}
use Rattle.e_literal.specs.Scopes.{with_sorts}
use Rattle.e_literal.specs.Use.{StatementView, gives_of_use, scope_of}
use Rattle.e_construct.specs.Construct.{sorts_made, gives_of_construction}
use Rattle.e_construct.specs.Superposing as superposing
use Rattle.e_deriv.specs.Script.{Script, Cite, Hence, Make, Apply, Claim, Superposed, Qed}
use Rattle.e_deriv.specs.Script.{Contradiction, Cases}
use Rattle.e_deriv.specs.Parts.{rest_of, inner_of, args_of}
use Rattle.e_deriv.specs.Goal.{Goal, goal_of, goal_of_statement, facts_of_statement}

-- a step: the scope and the facts before it, the goal of its block, the script from it on, and,
-- where it applies a theorem, the arguments with all blanks filled
pub record PlacedStep : Type 0 where
  pub scope : Scope
  pub facts : List Lit
  pub goal : Goal
  pub here : Script
  pub args : List Obj

abbrev pub placed_step : Script → Script → Scope → List Lit → Goal → PlacedStep
placed_step here filled s facts goal =
    record { scope = s; facts = facts; goal = goal; here = here; args = args_of filled }

abbrev pub no_statement : StatementView
no_statement = record { declared = []; given = []; made = []; shown = [] }

-- the theorem at this place among those before; past the end one that says nothing
abbrev pub theorem_at : List StatementView → ℕ → StatementView
theorem_at before k = unwrap_or (slice_get before k) no_statement

-- The steps of a script, whose blanks are filled by the arguments that a second script has in the
-- same places; a script without blanks is its own second. An applied theorem's made objects come
-- into scope after the step, and what it shows joins the facts. The block of a claim begins with
-- what holds before it; when it is closed its objects and its facts are gone, and the claimed
-- literals are facts. The block of a superposition begins with the two copied points too, and what
-- it gives. The blocks of a split have the goal of the block that the split closes, the first with
-- the literal for a fact, the second with its negation.
unfoldable pub placed_steps : List StatementView → Script → Script → Scope → List Lit
    → Goal → List PlacedStep
placed_steps before (Cite by rest) f s facts goal =
    placed_step (Cite by rest) f s facts goal
    ∷ placed_steps before rest (rest_of f) s (with_fact facts by.lit) goal
placed_steps before (Hence lit cert rest) f s facts goal =
    placed_step (Hence lit cert rest) f s facts goal
    ∷ placed_steps before rest (rest_of f) s (with_fact facts lit) goal
placed_steps before (Make construction names certs rest) f s facts goal =
    placed_step (Make construction names certs rest) f s facts goal
    ∷ placed_steps before rest (rest_of f)
    (with_sorts s (sorts_made construction))
    (with_facts facts (gives_of_construction construction s)) goal
placed_steps before (Apply theorem args names certs rest) f s facts goal =
    placed_step (Apply theorem args names certs rest) f s facts goal
    ∷ placed_steps before rest (rest_of f) (with_sorts s (theorem_at before theorem).made)
    (with_facts facts (gives_of_use (theorem_at before theorem) (args_of f) s)) goal
placed_steps before (Claim shown inner rest) f s facts goal =
    placed_step (Claim shown inner rest) f s facts goal
    ∷ (placed_steps before inner (inner_of f) s facts (goal_of shown)
    ++ placed_steps before rest (rest_of f) s (with_facts facts shown) goal)
placed_steps before (Superposed superposition names shown certs inner rest) f s facts goal =
    placed_step (Superposed superposition names shown certs inner rest) f s facts goal
    ∷ (placed_steps before inner (inner_of f) (with_sorts s superposing.sorts_copied)
    (with_facts facts (superposing.gives_of_superposition superposition s)) (goal_of shown)
    ++ placed_steps before rest (rest_of f) s (with_facts facts shown) goal)
placed_steps before (Qed objects certs) f s facts goal =
    placed_step (Qed objects certs) f s facts goal ∷ []
placed_steps before (Contradiction against) f s facts goal =
    placed_step (Contradiction against) f s facts goal ∷ []
placed_steps before (Cases lit first second) f s facts goal =
    placed_step (Cases lit first second) f s facts goal
    ∷ (placed_steps before first (inner_of f) s (with_fact facts lit) goal
    ++ placed_steps before second (rest_of f) s (with_fact facts (negation lit)) goal)

-- the steps of a statement's proof
abbrev pub proof_steps : List StatementView → StatementView → Script → Script → List PlacedStep
proof_steps before t script f =
    placed_steps before script f (scope_of t) (facts_of_statement t) (goal_of_statement t)

-- the number of the first step that fails the test, where the first step has number n; else the
-- number after the last
abbrev pub first_failure : (PlacedStep → Bool) → List PlacedStep → ℕ → Result ℕ ℕ
first_failure p [] n = Ok n
first_failure p (x ∷ xs) n = if p x then first_failure p xs (n + 1) else Err n
