-- What the first choices are of the list of all.
use Rattle.std.specs.Prelude.{◌≡◌, ℕ, List, length, take, Bool, nat_lt}
use Rattle.e_literal.specs.declared.object.Obj.{Obj}
use Rattle.e_literal.specs.declared.object.Scope.{Scope}
use Rattle.e_literal.specs.declared.literal.Lit.{Lit}
use Rattle.e_literal.specs.Use.{StatementView}
use Rattle.e_suggest.specs.Suggestions.{AreChoices, AreFirstChoices}

abbrev pub FirstOfChoices : Type 0
FirstOfChoices =
    (t : StatementView) (scope : Scope) (facts : List Lit) (all : List (List Obj)) (most : ℕ)
    (choices : List (List Obj)) (more : Bool) →
    AreChoices t scope facts all → AreFirstChoices t scope facts most choices more
    → (choices ≡ take most all) × (more ≡ nat_lt most (length all))
