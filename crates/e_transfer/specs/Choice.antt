-- Choices of numbers, one for each of a list of spans.
use Rattle.e_transfer.specs.declared.walk.Span.{Span}
use Rattle.std.specs.Prelude.{◌≡◌, ℕ, ◌<◌, ◌≤◌, ◌⊎◌, List, [], ◌∷◌, ◌++◌}

-- one number for each span, each in it
abbrev pub FitsSpans : List Span → List ℕ → Type 0
FitsSpans [] [] = Unit {0}
FitsSpans (n ∷ ns) (v ∷ vs) = (n.from ≤ v) × (v < n.to) × FitsSpans ns vs
FitsSpans _ _ = ⊥

-- the same, for the first spans alone
abbrev pub Starts : List Span → List ℕ → Type 0
Starts ns [] = Unit {0}
Starts (n ∷ ns) (v ∷ vs) = (n.from ≤ v) × (v < n.to) × Starts ns vs
Starts _ _ = ⊥

-- the first place where they differ is smaller
abbrev pub ComesBefore : List ℕ → List ℕ → Type 0
ComesBefore (u ∷ us) (v ∷ vs) = (u < v) ⊎ ((u ≡ v) × ComesBefore us vs)
ComesBefore _ _ = ⊥

-- each part of the choice, from what comes before it on, is kept
abbrev pub EachKept : (List ℕ → Type 0) → List ℕ → List ℕ → Type 0
EachKept kept before [] = kept before
EachKept kept before (v ∷ vs) = kept before × EachKept kept (before ++ v ∷ []) vs

-- no choice that fits is wanted
abbrev pub NoneWanted : (List ℕ → Type 0) → List ℕ → List Span → Type 0
NoneWanted wanted before spans = (d : List ℕ) → FitsSpans spans d → wanted (before ++ d) → ⊥

-- no choice that fits and is below this one is wanted
abbrev pub NoneBelow : (List ℕ → Type 0) → List ℕ → List Span → List ℕ → Type 0
NoneBelow wanted before spans c =
    (d : List ℕ) → FitsSpans spans d → ComesBefore d c → wanted (before ++ d) → ⊥
