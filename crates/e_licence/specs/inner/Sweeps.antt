-- What a sweep over choices answers: those that are found, as lists of numbers, each from the first
-- blank on.
use Rattle.std.specs.Prelude.{◌≡◌, ℕ, ◌≤◌, ◌<◌, ◌⊎◌, List, [], ◌∷◌, ◌++◌, length}
use Rattle.e_transfer.specs.declared.walk.Span.{Span}
use Rattle.e_transfer.specs.Choice.{FitsSpans, Starts, ComesBefore, EachKept}
use Rattle.e_licence.specs.declared.sweep.Swept.{Swept}
use Rattle.e_licence.specs.declared.sweep.Swept.TheVariants as sweep

-- ---- lists of choices

abbrev pub Each : (List ℕ → Type 0) → List (List ℕ) → Type 0
Each P [] = Unit {0}
Each P (c ∷ cs) = P c × Each P cs

abbrev pub IsAmongChoices : List ℕ → List (List ℕ) → Type 0
IsAmongChoices c [] = ⊥
IsAmongChoices c (d ∷ ds) = (d ≡ c) ⊎ IsAmongChoices c ds

-- each is below all that come after it
abbrev pub AreAscending : List (List ℕ) → Type 0
AreAscending [] = Unit {0}
AreAscending (c ∷ cs) = Each (ComesBefore c) cs × AreAscending cs

-- the choice is above all these
abbrev pub IsAbove : List (List ℕ) → List ℕ → Type 0
IsAbove cs d = Each (λ c. ComesBefore c d) cs

-- ---- what is found

-- the choice begins with these numbers and goes on with one of each span, and each of its parts
-- from there on is kept
pub record IsKeptWhole (kept : List ℕ → Type 0) (before : List ℕ) (spans : List Span)
    (c : List ℕ) : Type 0 where
  pub rest : List ℕ
  pub is : c ≡ before ++ rest
  pub fits : FitsSpans spans rest
  pub each : EachKept kept before rest

-- all choices that begin with these numbers were tried: the kept ones in order, and no wanted one
-- is missing
pub record AreAll (kept wanted : List ℕ → Type 0) (before : List ℕ) (spans : List Span)
    (cs : List (List ℕ)) : Type 0 where
  pub whole : Each (IsKeptWhole kept before spans) cs
  pub ascending : AreAscending cs
  pub none_missing : (d : List ℕ) → FitsSpans spans d → wanted (before ++ d)
      → IsAmongChoices (before ++ d) cs

-- the first of them, and there is one more; a wanted one that is missing is above them
pub record AreFirstOf (kept wanted : List ℕ → Type 0) (before : List ℕ) (spans : List Span)
    (cs : List (List ℕ)) : Type 0 where
  pub whole : Each (IsKeptWhole kept before spans) cs
  pub ascending : AreAscending cs
  pub none_missing : (d : List ℕ) → FitsSpans spans d → wanted (before ++ d)
      → IsAmongChoices (before ++ d) cs ⊎ IsAbove cs (before ++ d)
  pub next : List ℕ
  pub next_whole : IsKeptWhole kept before spans next
  pub next_above : IsAbove cs next

-- what a sweep answers: all were tried, and those that are kept were found; or one more than the
-- most was; or a part is too wide
abbrev pub Sweeps :
    (List ℕ → Type 0) → (List ℕ → ℕ → Type 0) → (List ℕ → Type 0) → List Span → ℕ → List ℕ → List ℕ
    → List (List ℕ) → List (List ℕ) → Swept → Type 0
Sweeps kept wide wanted spans most before after old new sweep.Done =
    (after ≡ before)
    × ((cs : List (List ℕ)) × (new ≡ old ++ cs) × AreAll kept wanted before spans cs)
    × (length new ≤ most)
Sweeps kept wide wanted spans most before after old new sweep.Full =
    ((cs : List (List ℕ)) × (new ≡ old ++ cs) × AreFirstOf kept wanted before spans cs)
    × (length new ≡ most)
Sweeps kept wide wanted spans most before after old new (sweep.TooWide w) =
    (c : List ℕ) × Starts spans c × (after ≡ before ++ c) × wide after w

-- one whole choice is found, unless there are as many as the most
abbrev pub FoundIs : ℕ → List ℕ → List (List ℕ) → List (List ℕ) → Swept → Type 0
FoundIs most c old new sweep.Done = (new ≡ old ++ c ∷ []) × (length new ≤ most)
FoundIs most c old new sweep.Full = (new ≡ old) × (length new ≡ most)
FoundIs most c old new (sweep.TooWide w) = ⊥

-- ---- a sweep over the numbers of one span

-- the choice has a number of the span, and below this one, after these, and is a kept one from
-- there on
pub record IsKeptUnder (kept : List ℕ → Type 0) (before : List ℕ) (span : Span) (rest : List Span)
    (v : ℕ) (c : List ℕ) : Type 0 where
  pub number : ℕ
  pub low : span.from ≤ number
  pub high : number < span.to
  pub less : number < v
  pub whole : IsKeptWhole kept (before ++ number ∷ []) rest c

-- all those were tried
pub record AreUnder (kept wanted : List ℕ → Type 0) (before : List ℕ) (span : Span)
    (rest : List Span) (v : ℕ) (cs : List (List ℕ)) : Type 0 where
  pub whole : Each (IsKeptUnder kept before span rest v) cs
  pub ascending : AreAscending cs
  pub none_missing : (u : ℕ) → span.from ≤ u → u < v → (d : List ℕ) → FitsSpans rest d
      → wanted ((before ++ u ∷ []) ++ d) → IsAmongChoices ((before ++ u ∷ []) ++ d) cs
