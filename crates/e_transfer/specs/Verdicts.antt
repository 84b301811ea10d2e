-- What a check and a search answer.
use Rattle.std.specs.Prelude.{◌≡◌, ℕ, List, ◌∷◌, ◌++◌, Bool, false, Option, Some, None, slice_get}
use Rattle.e_transfer.specs.declared.walk.Span.{Span}
use Rattle.e_transfer.specs.declared.walk.Verdict.{Verdict}
use Rattle.e_transfer.specs.declared.walk.Verdict.TheVariants as verdict
use Rattle.e_transfer.specs.Choice.{FitsSpans, Starts, EachKept, NoneWanted, NoneBelow}

-- the part is kept, or no choice that begins with it is wanted, or something there is too wide
abbrev pub VerdictIs :
    {P : Type 0} → (List ℕ → Type 0) → (List ℕ → P → Type 0) → (List ℕ → ℕ → Type 0)
    → (List ℕ → Type 0) → List ℕ → Verdict P → Type 0
VerdictIs kept shown wide wanted part (verdict.Yes p) = kept part × shown part p
VerdictIs kept shown wide wanted part verdict.No = (rest : List ℕ) → wanted (part ++ rest) → ⊥
VerdictIs kept shown wide wanted part (verdict.TooWide w) = wide part w

-- a choice each of whose parts is kept, and none below it is wanted; or none is wanted; or a part
-- that is too wide, and none below it is wanted
abbrev pub SearchIs :
    {P : Type 0} → (List ℕ → Type 0) → (List ℕ → P → Type 0) → (List ℕ → ℕ → Type 0)
    → (List ℕ → Type 0) → List Span → List ℕ → List ℕ → Verdict P → Type 0
SearchIs kept shown wide wanted spans before after (verdict.Yes p) =
    (c : List ℕ) × FitsSpans spans c × EachKept kept before c × (after ≡ before ++ c)
    × shown after p × NoneBelow wanted before spans c
SearchIs kept shown wide wanted spans before after verdict.No =
    (after ≡ before) × NoneWanted wanted before spans
SearchIs kept shown wide wanted spans before after (verdict.TooWide w) =
    (c : List ℕ) × Starts spans c × (after ≡ before ++ c) × wide after w
    × NoneBelow wanted before spans c

-- the number is marked false
abbrev pub IsExcluded : Option (List Bool) → ℕ → Type 0
IsExcluded None n = ⊥
IsExcluded (Some marks) n = slice_get marks n ≡ Some false

-- no choice is wanted that begins with the part and goes on with such a number
abbrev pub Excludes : (List ℕ → Type 0) → List ℕ → Option (List Bool) → Type 0
Excludes wanted part marks =
    (n : ℕ) → IsExcluded marks n → (rest : List ℕ) → wanted (part ++ n ∷ rest) → ⊥
