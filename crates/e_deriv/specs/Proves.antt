-- When a script proves a goal from a scope and facts, whatever its certificates say.
use Rattle.std.specs.Prelude.{List, IsTrue}
use Rattle.e_literal.specs.declared.object.Scope.{Scope}
use Rattle.e_literal.specs.declared.literal.Lit.{Lit}
use Rattle.e_literal.specs.Literal.{negation, all_in_scope}
use Rattle.e_literal.specs.Facts.{with_fact, with_facts}
use Rattle.e_literal.specs.Scopes.{with_sorts}
use Rattle.e_literal.specs.Use.{StatementView, needs_of_use, gives_of_use, scope_of}
use Rattle.e_clause.specs.Allowed.{Allowed, AllAllowed}
use Rattle.e_clause.specs.Consequence.{Contradictory}
use Rattle.e_construct.specs.Construct.{fits_construction, needs_of_construction, sorts_made}
use Rattle.e_construct.specs.Construct.{gives_of_construction}
use Rattle.e_construct.specs.Superposing as superposing
use Rattle.e_deriv.specs.Script.{Script, Cite, Hence, Make, Apply, Claim, Superposed, Qed}
use Rattle.e_deriv.specs.Script.{Contradiction, Cases}
use Rattle.e_deriv.specs.Goal.{Goal, goal_of, are_for, goal_with, goal_of_statement}
use Rattle.e_deriv.specs.Goal.{facts_of_statement}
use Rattle.e_deriv.specs.Parts.{args_written, has_no_blank}
use Rattle.e_deriv.specs.PlacedSteps.{theorem_at}
use Rattle.e_deriv.specs.Steps.{is_citation, is_cited, is_applied, are_over}

unfoldable pub Proves : List StatementView → Scope → List Lit → Goal → Script → Type 0
-- the literal is one of the instance, the negation of each other is a fact; it joins the facts
Proves before s facts goal (Cite by rest) =
    IsTrue (is_citation s by) × IsTrue (is_cited facts by)
    × Proves before s (with_fact facts by.lit) goal rest
-- the literal is allowed; it joins the facts
Proves before s facts goal (Hence lit cert rest) =
    IsTrue (all_in_scope s lit) × Allowed s facts lit
    × Proves before s (with_fact facts lit) goal rest
-- each literal that the construction needs is allowed; the new objects come into scope, and what it
-- gives joins the facts
Proves before s facts goal (Make construction names certs rest) =
    IsTrue (fits_construction construction s)
    × AllAllowed s facts (needs_of_construction construction)
    × Proves before (with_sorts s (sorts_made construction))
    (with_facts facts (gives_of_construction construction s)) goal rest
-- no argument is a blank, they fit the theorem, which is an earlier one, and each given literal is
-- allowed; the made objects come into scope, and the shown literals join the facts
Proves before s facts goal (Apply theorem args names certs rest) =
    IsTrue (has_no_blank args) × IsTrue (is_applied before theorem s args (args_written args))
    × AllAllowed s facts (needs_of_use (theorem_at before theorem) (args_written args) s)
    × Proves before (with_sorts s (theorem_at before theorem).made)
    (with_facts facts (gives_of_use (theorem_at before theorem) (args_written args) s)) goal rest
-- the inner block proves the claimed literals, and these join the facts; the inner objects and
-- facts are gone
Proves before s facts goal (Claim shown inner rest) =
    IsTrue (are_over s shown)
    × Proves before s facts (goal_of shown) inner
    × Proves before s (with_facts facts shown) goal rest
-- each literal that the superposition needs is allowed, and the inner block proves the shown
-- literals with the copy; these join the facts, and the copy is gone
Proves before s facts goal (Superposed superposition names shown certs inner rest) =
    IsTrue (superposing.fits_superposition superposition s)
    × AllAllowed s facts (superposing.needs_of_superposition superposition)
    × IsTrue (are_over s shown)
    × Proves before (with_sorts s superposing.sorts_copied)
    (with_facts facts (superposing.gives_of_superposition superposition s)) (goal_of shown) inner
    × Proves before s (with_facts facts shown) goal rest
-- each goal literal, with the objects for the made ones, is allowed
Proves before s facts goal (Qed objects certs) =
    IsTrue (are_for goal s objects) × AllAllowed s facts (goal_with goal objects)
-- the facts contradict each other
Proves before s facts goal (Contradiction against) = Contradictory facts
-- the first block proves the goal with the literal, and the second with its negation
Proves before s facts goal (Cases lit first second) =
    IsTrue (all_in_scope s lit)
    × Proves before s (with_fact facts lit) goal first
    × Proves before s (with_fact facts (negation lit)) goal second

-- the script proves the statement, where these are the theorems before it
abbrev pub IsProof : List StatementView → StatementView → Script → Type 0
IsProof before t script =
    Proves before (scope_of t) (facts_of_statement t) (goal_of_statement t) script
