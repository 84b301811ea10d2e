-- What is answered on the blanks of an application.
use Rattle.std.specs.Prelude.{List, Option}
use Rattle.e_literal.specs.declared.object.Obj.{Obj}
use Rattle.e_literal.specs.Use.{StatementView}
use Rattle.e_theorem.specs.Choice.{IsLeastChoice, NoneIsAllowed}
use Rattle.e_theorem.specs.WideChoice.{SomeChoiceIsTooWide}
use Rattle.e_licence.specs.Contexts.{Basis}
use Rattle.e_licence.specs.declared.blanks.Filled.{Filled}
use Rattle.e_licence.specs.declared.blanks.Filled.TheVariants as filled

-- the least good choice; or no choice is good; or a choice that is not above the least good one, if
-- there is one, is too wide
abbrev pub FilledIs : StatementView → Basis → List (Option Obj) → Filled → Type 0
FilledIs t b pattern (filled.Found args) = IsLeastChoice t b.scope b.facts pattern args
FilledIs t b pattern filled.None = NoneIsAllowed t b.scope b.facts pattern
FilledIs t b pattern (filled.TooWide w) = SomeChoiceIsTooWide t b.scope b.facts pattern w
