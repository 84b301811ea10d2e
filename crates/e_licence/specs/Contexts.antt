-- What a step is licensed by.
use Rattle.std.specs.Prelude.{◌≡◌, ◌≤◌, List, [], ◌∷◌, ◌++◌}
use Rattle.e_literal.specs.declared.object.Scope.{Scope}
use Rattle.e_literal.specs.declared.literal.Lit.{Lit}

-- the objects in scope, and the facts
pub record State : Type 0 where
  pub scope : Scope
  pub facts : List Lit

-- the objects in scope, the facts, and the states that are held, the last one last
pub record Basis : Type 0 where
  pub scope : Scope
  pub facts : List Lit
  pub held : List State

-- the present state
abbrev pub state_of : Basis → State
state_of b = record { scope = b.scope; facts = b.facts }

-- no count of the scope is less in the other
pub record IsWithin (s t : Scope) : Type 0 where
  pub points : s.points ≤ t.points
  pub lines : s.lines ≤ t.lines
  pub circles : s.circles ≤ t.circles

-- the last held state is the present one again, and is held no more
abbrev pub IsReleased : Basis → Basis → Type 0
IsReleased old new =
    (before : List State) (last : State) → old.held ≡ before ++ last ∷ []
    → new ≡ record { scope = last.scope; facts = last.facts; held = before }
