-- A choice under which a given literal is wide.
use Rattle.std.specs.Prelude.{ℕ, List, Option, IsTrue, IsFalse, Contains}
use Rattle.e_literal.specs.declared.object.Obj.{Obj}
use Rattle.e_literal.specs.declared.object.Scope.{Scope}
use Rattle.e_literal.specs.declared.literal.Lit.{Lit}
use Rattle.e_literal.specs.Use.{StatementView, needs_of_use}
use Rattle.e_clause.specs.Wide.{IsWideLit, IsTooWideLit}
use Rattle.e_theorem.specs.Choice.{is_choice, is_below, IsLeastChoice}

-- under a choice that is not above the least good one, if there is one, a given literal is wide
pub record SomeChoiceIsWide (t : StatementView) (scope : Scope) (facts : List Lit)
    (pattern : List (Option Obj)) : Type 0 where
  pub args : List Obj
  pub is_choice : IsTrue (is_choice t scope pattern args)
  pub not_above : (least : List Obj) → IsLeastChoice t scope facts pattern least
      → IsFalse (is_below least args)
  pub lit : Lit
  pub is_given : Contains (needs_of_use t args scope) lit
  pub is_wide : IsWideLit scope facts lit

-- the same, and w is the width of one of its wide systems
pub record SomeChoiceIsTooWide (t : StatementView) (scope : Scope) (facts : List Lit)
    (pattern : List (Option Obj)) (w : ℕ) : Type 0 where
  pub args : List Obj
  pub is_choice : IsTrue (is_choice t scope pattern args)
  pub not_above : (least : List Obj) → IsLeastChoice t scope facts pattern least
      → IsFalse (is_below least args)
  pub lit : Lit
  pub is_given : Contains (needs_of_use t args scope) lit
  pub is_wide : IsTooWideLit scope facts lit w
