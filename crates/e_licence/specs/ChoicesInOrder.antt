-- The good choices for the blanks of an application in order, the first of them.
use Rattle.std.specs.Prelude.{◌≡◌, ℕ, ◌≤◌, ◌⊎◌, List, [], ◌∷◌, length, Bool, true, ◌&&◌, Option}
use Rattle.std.specs.Prelude.{IsTrue, Contains}
use Rattle.std.specs.List.{list_all}
use Rattle.e_literal.specs.declared.object.Obj.{Obj}
use Rattle.e_literal.specs.declared.object.Scope.{Scope}
use Rattle.e_literal.specs.declared.literal.Lit.{Lit}
use Rattle.e_literal.specs.Use.{StatementView, needs_of_use}
use Rattle.e_clause.specs.Wide.{IsTooWideLit}
use Rattle.e_theorem.specs.Choice.{is_choice, is_below, IsAllowedChoice}
use Rattle.e_licence.specs.Contexts.{Basis}
use Rattle.e_licence.specs.declared.choices.FirstChoices.{FirstChoices}
use Rattle.e_licence.specs.declared.choices.FirstChoices.TheVariants as first

-- each choice is below all that come after it
abbrev pub is_ascending : List (List Obj) → Bool
is_ascending [] = true
is_ascending (c ∷ cs) = list_all (is_below c) cs && is_ascending cs

-- the choice is above all these
abbrev pub is_above : List (List Obj) → List Obj → Bool
is_above choices args = list_all (λ c. is_below c args) choices

-- a good choice that is above all these
pub record IsNextChoice (t : StatementView) (scope : Scope) (facts : List Lit)
    (pattern : List (Option Obj)) (choices : List (List Obj)) : Type 0 where
  pub args : List Obj
  pub good : IsAllowedChoice t scope facts pattern args
  pub above : IsTrue (is_above choices args)

-- The first of the good choices in order, at most this many; and whether there are more. No good
-- choice is missing before the last of these, and where there are no more none is missing at all.
pub record AreFirst (t : StatementView) (scope : Scope) (facts : List Lit)
    (pattern : List (Option Obj)) (most : ℕ) (choices : List (List Obj))
    (more : Bool) : Type 0 where
  pub good : (args : List Obj) → Contains choices args → IsAllowedChoice t scope facts pattern args
  pub ascending : IsTrue (is_ascending choices)
  pub few : length choices ≤ most
  pub none_missing : (other : List Obj) → IsAllowedChoice t scope facts pattern other
      → Contains choices other ⊎ (IsTrue more × IsTrue (is_above choices other))
  pub next : IsTrue more → (length choices ≡ most) × IsNextChoice t scope facts pattern choices

-- under a choice a given literal is wide, and w is the width of one of its wide systems
pub record AnyChoiceIsTooWide (t : StatementView) (scope : Scope) (facts : List Lit)
    (pattern : List (Option Obj)) (w : ℕ) : Type 0 where
  pub args : List Obj
  pub is_choice : IsTrue (is_choice t scope pattern args)
  pub lit : Lit
  pub is_given : Contains (needs_of_use t args scope) lit
  pub is_wide : IsTooWideLit scope facts lit w

-- the first of the good choices; or some choice is too wide
abbrev pub FirstAre : StatementView → Basis → List (Option Obj) → ℕ → FirstChoices → Type 0
FirstAre t b pattern most (first.Found choices more) =
    AreFirst t b.scope b.facts pattern most choices more
FirstAre t b pattern most (first.TooWide w) = AnyChoiceIsTooWide t b.scope b.facts pattern w
