-- What is answered on a list of rows.
use Rattle.std.specs.Prelude.{◌≡◌, ◌⊎◌, ℕ, zero, suc, ◌^◌, ◌<◌, ◌≤◌, cond, ℤ, pos, ◌≤ℤ◌, List, []}
use Rattle.std.specs.Prelude.{◌∷◌, map, length, get_or, unsigned_abs}
use Rattle.e_literal.specs.declared.object.Term.{Term}
use Rattle.e_literal.specs.Same.{term_eq}
use Rattle.e_literal.specs.Rows.{Row, Sense, Zero, AtLeast, More, Not, negative}
use Rattle.e_literal.specs.Absurd.{Weighed, total}
use Rattle.e_literal.specs.Minor.{IsWide}
use Rattle.e_literal.specs.Solution.{Satisfy, HasSolution}
use Rattle.e_literal.specs.Width.{width}
use Rattle.e_simplex.specs.Naming.{AreOnce, AllNamed}
use Rattle.e_simplex.specs.declared.decision.Absurdity.{Absurdity}
use Rattle.e_simplex.specs.declared.decision.Absurdity.TheVariants.{One, Two}
use Rattle.e_simplex.specs.declared.decision.Verdict.{Verdict}
use Rattle.e_simplex.specs.declared.decision.Verdict.TheVariants.{Absurd, Holds, TooWide}

-- ---- multipliers

-- each row with its multiplier
abbrev pub each_weighed : List Row → List ℤ → List Weighed
each_weighed [] ms = []
each_weighed (r ∷ rs) [] = []
each_weighed (r ∷ rs) (m ∷ ms) = record { multiplier = m; row = r } ∷ each_weighed rs ms

-- only a row that says `0` may be taken away, and one that says `not 0` takes no part
abbrev pub MayTake : Sense → ℤ → Type 0
MayTake Zero m = Unit {0}
MayTake AtLeast m = pos 0 ≤ℤ m
MayTake More m = pos 0 ≤ℤ m
MayTake Not m = m ≡ pos 0

-- one multiplier a row, as the row may be taken
abbrev pub AreMultipliers : List Row → List ℤ → Type 0
AreMultipliers [] [] = Unit {0}
AreMultipliers (r ∷ rs) (m ∷ ms) = MayTake r.sense m × AreMultipliers rs ms
AreMultipliers [] (m ∷ ms) = ⊥
AreMultipliers (r ∷ rs) [] = ⊥

-- a row that says `more` is taken at least once
abbrev pub TakesMore : List Row → List ℤ → Type 0
TakesMore [] ms = ⊥
TakesMore (r ∷ rs) [] = ⊥
TakesMore (r ∷ rs) (m ∷ ms) = ((r.sense ≡ More) × (pos 1 ≤ℤ m)) ⊎ TakesMore rs ms

-- the sum of the rows says that nothing positive is more than 0
pub record Refutes (rows : List Row) (ms : List ℤ) : Type 0 where
  pub taken : AreMultipliers rows ms
  pub more : TakesMore rows ms
  pub small : (i : ℕ) → i < length ms → unsigned_abs (get_or ms i (pos 0)) ≤ 2 ^ 80
  pub no_positive : (t : Term) → total (each_weighed rows ms) t ≤ℤ pos 0
  pub small_sums : (t : Term) → unsigned_abs (total (each_weighed rows ms) t) ≤ 2 ^ 80

-- the row at k says `not 0`
abbrev pub IsNotAt : List Row → ℕ → Type 0
IsNotAt [] k = ⊥
IsNotAt (r ∷ rs) zero = r.sense ≡ Not
IsNotAt (r ∷ rs) (suc k) = IsNotAt rs k

-- the row at k says that its form is more than 0
abbrev pub as_more : List Row → ℕ → List Row
as_more [] k = []
as_more (r ∷ rs) zero = record { sense = More; form = r.form } ∷ rs
as_more (r ∷ rs) (suc k) = r ∷ as_more rs k

-- the row at k says that its form is less than 0
abbrev pub as_less : List Row → ℕ → List Row
as_less [] k = []
as_less (r ∷ rs) zero = record { sense = More; form = negative r.form } ∷ rs
as_less (r ∷ rs) (suc k) = r ∷ as_less rs k

-- both signs of a row that says `not 0` are refuted
pub record RefutesBoth (rows : List Row) (k : ℕ) (above below : List ℤ) : Type 0 where
  pub is_not : IsNotAt rows k
  pub above_refutes : Refutes (as_more rows k) above
  pub below_refutes : Refutes (as_less rows k) below

abbrev pub IsAbsurdity : List Row → Absurdity → Type 0
IsAbsurdity rows (One multipliers) = Refutes rows multipliers.items
IsAbsurdity rows (Two row above below) = RefutesBoth rows row above.items below.items

-- ---- values

-- the number of the term in a list of pairs, or 0
abbrev pub assigned_value : List (Term × ℕ) → Term → ℕ
assigned_value [] t = 0
assigned_value (p ∷ ps) t = cond (term_eq t p.0) p.1 (assigned_value ps t)

-- values for the terms of the rows, each once, that satisfy every row
pub record AreValuesOf (rows : List Row) (pairs : List (Term × ℕ)) : Type 0 where
  pub once : AreOnce (map (λ p. p.0) pairs)
  pub all : AllNamed (map (λ p. p.0) pairs) rows
  pub satisfy : Satisfy (assigned_value pairs) rows

-- multipliers that refute the rows, which have no solution
pub record IsRefuted (rows : List Row) (absurdity : Absurdity) : Type 0 where
  pub refutes : IsAbsurdity rows absurdity
  pub none : ¬ HasSolution rows

-- values that satisfy the rows; or multipliers that refute them; or the rows are wide, and so is
-- their width
abbrev pub IsVerdict : List Row → Verdict → Type 0
IsVerdict rows (Absurd absurdity) = IsRefuted rows absurdity
IsVerdict rows (Holds values) = AreValuesOf rows values
IsVerdict rows TooWide = IsWide rows × (2 ^ 63 ≤ width rows)

abbrev pub IsHolds : Verdict → Type 0
IsHolds (Absurd absurdity) = ⊥
IsHolds (Holds values) = Unit {0}
IsHolds TooWide = ⊥

abbrev pub IsAbsurd : Verdict → Type 0
IsAbsurd (Absurd absurdity) = Unit {0}
IsAbsurd (Holds values) = ⊥
IsAbsurd TooWide = ⊥
