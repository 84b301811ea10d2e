-- What was answered on literals, with no word of why.
use Rattle.std.specs.Prelude.{Bool, false, ◌||◌, ◌==◌, IsTrue, IsFalse}
use Rattle.std.specs.List.{list_any}
use Rattle.e_literal.specs.declared.object.Term.{Term}
use Rattle.e_literal.specs.declared.object.Term.TheVariants.{Seg}
use Rattle.e_literal.specs.declared.literal.Lit.{Lit}
use Rattle.e_literal.specs.declared.literal.Atom.{Atom}
use Rattle.e_literal.specs.declared.literal.Atom.TheVariants.{MagEq, MagLt}
use Rattle.e_literal.specs.Facts.{has}
use Rattle.e_clause.specs.Allowed.{Allowed}
use Rattle.e_clause.specs.Wide.{IsTooWideLit}
use Rattle.e_transfer.specs.declared.walk.Verdict.{Verdict}
use Rattle.e_transfer.specs.declared.walk.Verdict.TheVariants as verdict
use Rattle.e_licence.specs.Contexts.{Basis}
use Rattle.e_licence.specs.declared.verdicts.Verdicts.{Verdicts}

-- the literal is allowed, or it is not, or it is wide and this is the width of one of its systems
abbrev pub JudgedIs : Basis → Lit → Verdict (Unit {0}) → Type 0
JudgedIs b l (verdict.Yes p) = Allowed b.scope b.facts l
JudgedIs b l verdict.No = ¬ Allowed b.scope b.facts l
JudgedIs b l (verdict.TooWide w) = IsTooWideLit b.scope b.facts l w

-- a segment from a point to itself
abbrev pub is_loop : Term → Bool
is_loop (Seg a b) = a == b
is_loop _ = false

-- the metric literal is written with one
abbrev pub has_loop : Atom → Bool
has_loop (MagEq x y) = list_any (λ m. is_loop m.term) x || list_any (λ m. is_loop m.term) y
has_loop (MagLt x y) = list_any (λ m. is_loop m.term) x || list_any (λ m. is_loop m.term) y
has_loop _ = false

-- what is kept is so by this scope and these facts
pub record AreRight (b : Basis) (v : Verdicts) : Type 0 where
  pub allowed : (l : Lit) → IsTrue (has v.allowed l) → Allowed b.scope b.facts l
  pub refused : (l : Lit) → IsTrue (has v.refused l) → IsFalse (has_loop l.atom)
      → ¬ Allowed b.scope b.facts l
