-- Which fact clashes.
use Rattle.std.specs.Prelude.{◌≡◌, ℕ, List, IsTrue, IsFalse, Option, Some, None, slice_get}
use Rattle.e_literal.specs.declared.literal.Lit.{Lit}
use Rattle.e_clause.specs.Clash.{clash, clashes_at}

-- the literal is the fact at some place, and its negation is a fact too
pub record IsClashing (facts : List Lit) (l : Lit) : Type 0 where
  pub place : ℕ
  pub is_there : slice_get facts place ≡ Some l
  pub clashes : IsTrue (clashes_at facts l)

-- a fact that clashes; or none does
abbrev pub IsClashOf : List Lit → Option Lit → Type 0
IsClashOf facts (Some l) = IsClashing facts l
IsClashOf facts None = IsFalse (clash facts)
