-- Choices for the blanks of an application, number by number, and what is licensed at each.
use Rattle.std.specs.Prelude.{◌≡◌, ℕ, List, [], ◌∷◌, Bool, true, Option, Some, None}
use Rattle.std.specs.Prelude.{map, length, IsTrue, Contains}
use Rattle.e_literal.specs.declared.object.Obj.{Obj}
use Rattle.e_literal.specs.declared.object.Scope.{Scope}
use Rattle.e_literal.specs.declared.literal.Lit.{Lit}
use Rattle.e_literal.specs.declared.map.Entry.{Entry}
use Rattle.e_literal.specs.Literal.{obj, count_of}
use Rattle.e_literal.specs.Rename.{image_in, with_images, pairs_of}
use Rattle.e_clause.specs.Allowed.{Allowed, AllAllowed}
use Rattle.e_clause.specs.LimitedFacts.{is_well_formed_in}
use Rattle.e_clause.specs.Wide.{IsTooWideLit}
use Rattle.e_transfer.specs.declared.walk.Span.{Span}
use Rattle.e_transfer.specs.declared.walk.Verdict.{Verdict}
use Rattle.e_transfer.specs.declared.walk.Verdict.TheVariants as verdict
use Rattle.e_transfer.specs.Choice.{FitsSpans}
use Rattle.e_licence.specs.Contexts.{Basis}

-- ---- arguments

-- the argument for the object: the written one, or that with the next number; where no number is
-- left, that which comes next in a scope
abbrev pub argument_for : Scope → Obj → Option Obj → List ℕ → Obj
argument_for missing o (Some p) c = p
argument_for missing o None [] = obj o.sort (count_of missing o.sort)
argument_for missing o None (v ∷ c) = obj o.sort v

-- the numbers that are left after it
abbrev pub numbers_left : Option Obj → List ℕ → List ℕ
numbers_left (Some p) c = c
numbers_left None [] = []
numbers_left None (v ∷ c) = c

-- the arguments for all the objects
abbrev pub filled_arguments : Scope → List Obj → List (Option Obj) → List ℕ → List Obj
filled_arguments missing (o ∷ os) (e ∷ entries) c =
    argument_for missing o e c ∷ filled_arguments missing os entries (numbers_left e c)
filled_arguments missing _ _ c = []

-- the numbers in scope for a blank
abbrev pub spans_of : Scope → List Obj → List (Option Obj) → List Span
spans_of s (o ∷ os) (Some p ∷ entries) = spans_of s os entries
spans_of s (o ∷ os) (None ∷ entries) =
    record { from = 0; to = count_of s o.sort } ∷ spans_of s os entries
spans_of s _ _ = []

-- the images of the objects
abbrev pub images_of_choice : Scope → List Obj → List (Option Obj) → List ℕ → List Entry
images_of_choice s os entries c = pairs_of os (filled_arguments s os entries c)

-- ---- what is licensed at the first numbers of a choice

-- each literal all of whose objects are in scope is allowed
abbrev pub AllBound : Basis → List Entry → List Lit → Type 0
AllBound b now [] = Unit {0}
AllBound b now (l ∷ ls) =
    (IsTrue (is_well_formed_in b.scope (with_images (image_in now) l))
    → Allowed b.scope b.facts (with_images (image_in now) l)) × AllBound b now ls

-- of a whole choice each literal is allowed; of the first numbers of one nothing is known
abbrev pub IsKeptChoice : Basis → List Obj → List (Option Obj) → List Lit → List ℕ → Type 0
IsKeptChoice b os entries given part =
    length part ≡ length (spans_of b.scope os entries)
    → AllBound b (images_of_choice b.scope os entries part) given

-- a whole choice with which each literal is allowed
abbrev pub IsWanted : Basis → List Obj → List (Option Obj) → List Lit → List ℕ → Type 0
IsWanted b os entries given c =
    FitsSpans (spans_of b.scope os entries) c × AllAllowed b.scope b.facts
    (map (with_images (image_in (images_of_choice b.scope os entries c))) given)

-- all objects of the literal are in scope, and it is not allowed
pub record IsRefused (b : Basis) (image : Lit) : Type 0 where
  pub good : IsTrue (is_well_formed_in b.scope image)
  pub not_allowed : ¬ Allowed b.scope b.facts image

-- all objects of the literal are in scope, and it is too wide
pub record IsWideImage (b : Basis) (image : Lit) (w : ℕ) : Type 0 where
  pub good : IsTrue (is_well_formed_in b.scope image)
  pub is_wide : IsTooWideLit b.scope b.facts image w

-- the same of the literal by the images of its objects
abbrev pub IsRefusedAt : Basis → List Entry → Lit → Type 0
IsRefusedAt b now l = IsRefused b (with_images (image_in now) l)

abbrev pub IsWideUnder : Basis → List Entry → Lit → ℕ → Type 0
IsWideUnder b now l w = IsWideImage b (with_images (image_in now) l) w

-- one of the literals is so
pub record SomeIsRefusedAt (b : Basis) (now : List Entry) (ls : List Lit) : Type 0 where
  pub lit : Lit
  pub is_one : Contains ls lit
  pub is_refused : IsRefusedAt b now lit

pub record SomeIsWideAt (b : Basis) (now : List Entry) (ls : List Lit) (w : ℕ) : Type 0 where
  pub lit : Lit
  pub is_one : Contains ls lit
  pub is_wide : IsWideUnder b now lit w

-- what is answered on one literal
abbrev pub KnownIs : Basis → Lit → Verdict (Unit {0}) → Type 0
KnownIs b image (verdict.Yes p) =
    IsTrue (is_well_formed_in b.scope image) → Allowed b.scope b.facts image
KnownIs b image verdict.No = IsRefused b image
KnownIs b image (verdict.TooWide w) = IsWideImage b image w

abbrev pub OneIs : Basis → List Entry → Lit → Verdict (Unit {0}) → Type 0
OneIs b now l v = KnownIs b (with_images (image_in now) l) v

-- what is answered on all, or on some
abbrev pub AllIs : Basis → List Entry → Bool → List Lit → Verdict (Unit {0}) → Type 0
AllIs b now all ls (verdict.Yes p) = all ≡ true → AllBound b now ls
AllIs b now all ls verdict.No = SomeIsRefusedAt b now ls
AllIs b now all ls (verdict.TooWide w) = SomeIsWideAt b now ls w
