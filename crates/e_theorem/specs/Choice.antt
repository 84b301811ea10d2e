-- Choices for the blanks of an application, and the least good one.
use Rattle.std.specs.Prelude.{List, [], ◌∷◌, IsTrue, IsFalse, Bool, true, false, ◌&&◌, ◌||◌, ◌==◌}
use Rattle.std.specs.Prelude.{nat_lt, Option, Some, None}
use Rattle.e_literal.specs.declared.object.Obj.{Obj}
use Rattle.e_literal.specs.declared.object.Scope.{Scope}
use Rattle.e_literal.specs.declared.literal.Lit.{Lit}
use Rattle.e_literal.specs.Rename.{same_obj}
use Rattle.e_literal.specs.Use.{StatementView, are_arguments, needs_of_use}
use Rattle.e_clause.specs.Allowed.{AllAllowed}

-- the arguments have an object for each blank, and the written object elsewhere
abbrev pub fills : List (Option Obj) → List Obj → Bool
fills [] [] = true
fills (None ∷ entries) (o ∷ os) = fills entries os
fills (Some p ∷ entries) (o ∷ os) = same_obj p o && fills entries os
fills _ _ = false

-- a choice: arguments of the statement that fill the pattern
abbrev pub is_choice : StatementView → Scope → List (Option Obj) → List Obj → Bool
is_choice t s pattern args = fills pattern args && are_arguments t s args

-- a good choice: each given literal, renamed, is allowed
pub record IsAllowedChoice (t : StatementView) (scope : Scope) (facts : List Lit)
    (pattern : List (Option Obj)) (args : List Obj) : Type 0 where
  pub is_choice : IsTrue (is_choice t scope pattern args)
  pub allowed : AllAllowed scope facts (needs_of_use t args scope)

-- the first number that differs, in declared order, is smaller
abbrev pub is_below : List Obj → List Obj → Bool
is_below (a ∷ others) (b ∷ bs) = nat_lt a.num b.num || (a.num == b.num && is_below others bs)
is_below _ _ = false

-- the least good choice
pub record IsLeastChoice (t : StatementView) (scope : Scope) (facts : List Lit)
    (pattern : List (Option Obj)) (args : List Obj) : Type 0 where
  pub good : IsAllowedChoice t scope facts pattern args
  pub least : (other : List Obj) → IsAllowedChoice t scope facts pattern other
      → IsFalse (is_below other args)

-- no choice is good
abbrev pub NoneIsAllowed : StatementView → Scope → List Lit → List (Option Obj) → Type 0
NoneIsAllowed t scope facts pattern =
    (args : List Obj) → ¬ IsAllowedChoice t scope facts pattern args
