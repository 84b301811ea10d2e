-- What a script has to be before it is judged.
use Rattle.std.specs.Prelude.{ℕ, ◌≤◌, List, [], ◌∷◌, length, Bool, ◌&&◌, nat_lt, nat_le, IsTrue}
use Rattle.std.specs.List.{list_all}
use Rattle.e_literal.specs.declared.object.Scope.{Scope}
use Rattle.e_literal.specs.Scopes.{with_sorts}
use Rattle.e_literal.specs.Use.{StatementView, scope_of, is_statement}
use Rattle.e_clause.specs.LimitedFacts.{are_well_formed_in, are_limited_facts}
use Rattle.e_theorem.specs.Pattern.{is_pattern}
use Rattle.e_deriv.specs.Script.{Script, Apply, size, depth}
use Rattle.e_deriv.specs.PlacedSteps.{PlacedStep, theorem_at, proof_steps}
use Rattle.e_deriv.specs.Steps.{fits, needs}

-- the declared and the made objects of a statement
abbrev pub all_objects : StatementView → Scope
all_objects t = with_sorts (scope_of t) t.made

-- at most 1,000 objects of each sort: more than a book can have, and 16 bits number them
abbrev pub is_small : Scope → Bool
is_small s = nat_le s.points 1000 && (nat_le s.lines 1000 && nat_le s.circles 1000)

-- the literals speak of the statement's objects, of which there are at most 1,000 of each sort
abbrev pub is_small_statement : StatementView → Bool
is_small_statement t = is_statement t && is_small (all_objects t)

-- the step fits where it is, whatever its blanks are filled with: the theorem that it applies is
-- one of those before, and the arguments that are written are of its sorts and in scope
abbrev pub fits_with_blanks : List StatementView → PlacedStep → Script → Bool
fits_with_blanks before x (Apply theorem pattern names certs rest) =
    nat_lt theorem (length before) && is_pattern (theorem_at before theorem) x.scope pattern
fits_with_blanks before x _ = fits before x

-- up to the first step whose blanks are filled amiss, the facts before each step are in scope and
-- well formed, and their terms are few; so are the literals that it needs
abbrev pub LitsFit : List StatementView → List PlacedStep → Type 0
LitsFit before [] = Unit {0}
LitsFit before (x ∷ xs) =
    IsTrue (are_limited_facts x.scope x.facts)
    × (IsTrue (fits before x)
    → IsTrue (are_well_formed_in x.scope (needs before x)) × LitsFit before xs)

-- each step fits, and so do the literals, however blanks are filled; there are at most 1,024 steps,
-- and at most 32 blocks are one inside the other; before each step at most 1,000 objects of each
-- sort are in scope, and no statement has more, so that every object has a number of 16 bits
pub record IsFitting (before : List StatementView) (t : StatementView)
    (script : Script) : Type 0 where
  pub forms :
      IsTrue (list_all (λ x. fits_with_blanks before x x.here) (proof_steps before t script script))
  pub lits : (filled : Script) → LitsFit before (proof_steps before t script filled)
  pub scopes : IsTrue (list_all (λ x. is_small x.scope) (proof_steps before t script script))
  pub statements : IsTrue (list_all is_small_statement before)
  pub short : size script ≤ 1024
  pub shallow : depth script ≤ 32
  pub points : (all_objects t).points ≤ 1000
  pub lines : (all_objects t).lines ≤ 1000
  pub circles : (all_objects t).circles ≤ 1000
