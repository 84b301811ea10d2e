-- The choices of arguments for a statement.
use Rattle.std.specs.Prelude.{ℕ, List, map, Bool, Option, None, IsTrue, Contains}
use Rattle.e_literal.specs.declared.object.Obj.{Obj}
use Rattle.e_literal.specs.declared.object.Scope.{Scope}
use Rattle.e_literal.specs.declared.literal.Lit.{Lit}
use Rattle.e_literal.specs.Use.{StatementView}
use Rattle.e_theorem.specs.Choice.{IsAllowedChoice}
use Rattle.e_licence.specs.Contexts.{Basis}
use Rattle.e_licence.specs.ChoicesInOrder.{is_ascending, AreFirst, AnyChoiceIsTooWide, FirstAre}
use Rattle.e_licence.specs.declared.choices.FirstChoices.{FirstChoices}

-- a blank for each declared object
abbrev pub blanks : StatementView → List (Option Obj)
blanks t = map (λ s. None) t.declared

-- the list of all choices of arguments at which each given literal is allowed, each below the next
pub record AreChoices (t : StatementView) (scope : Scope) (facts : List Lit)
    (list : List (List Obj)) : Type 0 where
  pub good : (args : List Obj) → Contains list args → IsAllowedChoice t scope facts (blanks t) args
  pub ascending : IsTrue (is_ascending list)
  pub all : (args : List Obj) → IsAllowedChoice t scope facts (blanks t) args → Contains list args

-- the first of them, and whether there are more; a law ties this to the list
abbrev pub AreFirstChoices : StatementView → Scope → List Lit → ℕ → List (List Obj) → Bool → Type 0
AreFirstChoices t scope facts most choices more =
    AreFirst t scope facts (blanks t) most choices more

-- under some choice of arguments a given literal is wide, and w is the width of one of its wide
-- systems
abbrev pub SomeArgsAreTooWide : StatementView → Scope → List Lit → ℕ → Type 0
SomeArgsAreTooWide t scope facts w = AnyChoiceIsTooWide t scope facts (blanks t) w

abbrev pub SuggestedIs : StatementView → Basis → ℕ → FirstChoices → Type 0
SuggestedIs t b most answer = FirstAre t b (blanks t) most answer
