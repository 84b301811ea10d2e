-- Numbers of one blank with which no choice is good.
use Rattle.std.specs.Prelude.{◌≡◌, ℕ, ◌<◌, ◌≤◌, ◌⊎◌, List, Bool, true, Option, Some, slice_get}
use Rattle.e_literal.specs.declared.object.Obj.{Obj}
use Rattle.e_literal.specs.declared.literal.Lit.{Lit}
use Rattle.e_literal.specs.Rename.{image_in, with_images}
use Rattle.e_clause.specs.Allowed.{Allowed}
use Rattle.e_transfer.specs.declared.walk.Span.{Span}
use Rattle.e_transfer.specs.Choice.{FitsSpans}
use Rattle.e_licence.specs.Contexts.{Basis}
use Rattle.e_licence.specs.declared.blanks.Blanks.{Blanks}
use Rattle.e_licence.specs.inner.BlankChoices.{spans_of, images_of_choice, IsWanted}

-- the number is out of the span at this place
pub record IsOut (spans : List Span) (i x : ℕ) : Type 0 where
  pub span : Span
  pub is_there : slice_get spans i ≡ Some span
  pub out : span.to ≤ x

-- each number of the first choice is that of the second at its place, or out of its span
abbrev pub AgreesWith : List Span → List ℕ → List ℕ → Type 0
AgreesWith spans c d =
    (i x : ℕ) → slice_get c i ≡ Some x → (slice_get d i ≡ Some x) ⊎ IsOut spans i x

-- the choice has the one number at the one place, the other at the other, and none else in its span
abbrev pub IsPair : List Span → ℕ → ℕ → ℕ → ℕ → List ℕ → Type 0
IsPair spans first value last num c =
    (i x : ℕ) → slice_get c i ≡ Some x
    → ((i ≡ first) × (x ≡ value)) ⊎ (((i ≡ last) × (x ≡ num)) ⊎ IsOut spans i x)

-- what a choice is of, and the literal with it
pub record Choosing : Type 0 where
  pub basis : Basis
  pub objects : List Obj
  pub entries : List (Option Obj)
  pub given : List Lit

abbrev pub choosing_of : Blanks → Choosing
choosing_of b = record {
  basis = b.context.now;
  objects = b.declared.items;
  entries = b.pattern.now;
  given = b.statement.now.given;
}

abbrev pub lit_with : Choosing → List ℕ → Lit → Lit
lit_with g c l = with_images (image_in (images_of_choice g.basis.scope g.objects g.entries c)) l

abbrev pub spans_with : Choosing → List Span
spans_with g = spans_of g.basis.scope g.objects g.entries

-- with the one number at the one place, and a lesser one at the other, the literal is not allowed
abbrev pub RowFails : Choosing → Lit → ℕ → ℕ → ℕ → ℕ → Type 0
RowFails g l first value last below =
    (d : List ℕ) (m : ℕ) → FitsSpans (spans_with g) d → slice_get d first ≡ Some value
    → slice_get d last ≡ Some m → m < below → Allowed g.basis.scope g.basis.facts (lit_with g d l)
    → ⊥

-- no wanted choice has this number at this place
abbrev pub NoneHas : Choosing → ℕ → ℕ → Type 0
NoneHas g place value =
    (d : List ℕ) → IsWanted g.basis g.objects g.entries g.given d
    → slice_get d place ≡ Some value → ⊥

-- the numbers that are marked at a place
abbrev pub AreMarked : Choosing → ℕ → List Bool → Type 0
AreMarked g place marks = (value : ℕ) → slice_get marks value ≡ Some true → NoneHas g place value

-- the same at each place
abbrev pub AreExcluded : Choosing → List (List Bool) → Type 0
AreExcluded g table =
    (place : ℕ) (marks : List Bool) → slice_get table place ≡ Some marks
    → AreMarked g place marks
