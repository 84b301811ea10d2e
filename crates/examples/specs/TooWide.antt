-- A literal that cannot be decided.
use Rattle.std.specs.Prelude.{ℕ, List}
use Rattle.e_literal.specs.declared.object.Scope.{Scope}
use Rattle.e_literal.specs.declared.literal.Lit.{Lit}
use Rattle.e_clause.specs.Wide.{IsTooWideLit}

-- a system of the literal has this width, which is too large
pub record IsTooWide (scope : Scope) (facts : List Lit) (l : Lit) : Type 0 where
  pub width : ℕ
  pub wide : IsTooWideLit scope facts l width
