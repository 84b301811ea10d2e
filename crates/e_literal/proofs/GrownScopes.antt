-- How far a scope grows.
use Rattle.std.proofs.Common.{◌≡◌, ℕ, ◌+◌, ◌≤◌, List, [], ◌∷◌, ◌++◌, length, map, refl, ap, arith}
use Rattle.std.proofs.lemmas.Grind.{common_steps}
use Rattle.e_literal.specs.declared.object.Scope.{Scope}
use Rattle.e_literal.specs.declared.object.Sort.{Sort}
use Rattle.e_literal.specs.declared.object.Sort.TheVariants.{Point, Line, Circle}
use Rattle.e_literal.specs.declared.object.Obj.{Obj}
use Rattle.e_literal.specs.Literal.{count_of}
use Rattle.e_literal.specs.Scopes.{nothing, with_one, with_sorts, next_objects}

-- ---- by one object

pub points_grow : (s : Scope) (sort : Sort) → (with_one s sort).points ≤ s.points + 1
points_grow s Point = omega arith
points_grow s Line = omega arith
points_grow s Circle = omega arith

pub lines_grow : (s : Scope) (sort : Sort) → (with_one s sort).lines ≤ s.lines + 1
lines_grow s Point = omega arith
lines_grow s Line = omega arith
lines_grow s Circle = omega arith

pub circles_grow : (s : Scope) (sort : Sort) → (with_one s sort).circles ≤ s.circles + 1
circles_grow s Point = omega arith
circles_grow s Line = omega arith
circles_grow s Circle = omega arith

pub ruleset growing = (common_steps, points_grow, lines_grow, circles_grow)

-- ---- by some objects

abbrev pub total : Scope → ℕ
total s = s.points + s.lines + s.circles

pub total_grows : (s : Scope) (sort : Sort) → total (with_one s sort) ≡ total s + 1
total_grows s Point = omega arith
total_grows s Line = omega arith
total_grows s Circle = omega arith

-- there are as many more as the list has sorts
pub total_grown : (s : Scope) (sorts : List Sort) → total (with_sorts s sorts) ≡ total s + length sorts
total_grown s [] = omega arith
total_grown s (sort ∷ sorts) = omega (arith, total_grown (with_one s sort) sorts, total_grows s sort)

-- none is lost, and of each sort there are at most this many more
pub record Bounds (s t : Scope) (n : ℕ) : Type 0 where
  pub points : s.points ≤ t.points
  pub lines : s.lines ≤ t.lines
  pub circles : s.circles ≤ t.circles
  pub few_points : t.points ≤ s.points + n
  pub few_lines : t.lines ≤ s.lines + n
  pub few_circles : t.circles ≤ s.circles + n

with_one_bounds : (s : Scope) (sort : Sort) → Bounds s (with_one s sort) 1
with_one_bounds s Point = record { points = omega arith; lines = omega arith; circles = omega arith; few_points = omega arith; few_lines = omega arith; few_circles = omega arith }
with_one_bounds s Line = record { points = omega arith; lines = omega arith; circles = omega arith; few_points = omega arith; few_lines = omega arith; few_circles = omega arith }
with_one_bounds s Circle = record { points = omega arith; lines = omega arith; circles = omega arith; few_points = omega arith; few_lines = omega arith; few_circles = omega arith }

bounds_then : (s t u : Scope) (n m : ℕ) → m ≡ n + 1 → Bounds s t 1 → Bounds t u n → Bounds s u m
bounds_then s t u n m e h k =
    record { points = omega arith; lines = omega arith; circles = omega arith; few_points = omega arith; few_lines = omega arith; few_circles = omega arith }

pub grown_bounds : (s : Scope) (sorts : List Sort) → Bounds s (with_sorts s sorts) (length sorts)
grown_bounds s [] = record { points = omega arith; lines = omega arith; circles = omega arith; few_points = omega arith; few_lines = omega arith; few_circles = omega arith }
grown_bounds s (sort ∷ sorts) =
    let more : length (sort ∷ sorts) ≡ length sorts + 1 = omega arith in
    bounds_then s (with_one s sort) (with_sorts (with_one s sort) sorts) (length sorts) (length (sort ∷ sorts)) more (with_one_bounds s sort) (grown_bounds (with_one s sort) sorts)

-- ---- counts and sorts

pub counts_nothing : (x : Sort) → count_of nothing x ≡ 0
counts_nothing Point = refl
counts_nothing Line = refl
counts_nothing Circle = refl

pub count_one : (s : Scope) (sort : Sort) → count_of (with_one s sort) sort ≡ count_of s sort + 1
count_one s Point = refl
count_one s Line = refl
count_one s Circle = refl

pub grown-append : (s : Scope) (xs ys : List Sort) → with_sorts s (xs ++ ys) ≡ with_sorts (with_sorts s xs) ys
grown-append s [] ys = refl
grown-append s (x ∷ xs) ys = grown-append (with_one s x) xs ys

pub sorts_next : (s : Scope) (sorts : List Sort) → map (λ (o : Obj). o.sort) (next_objects s sorts) ≡ sorts
sorts_next s [] = refl
sorts_next s (sort ∷ sorts) = ap (λ xs. sort ∷ xs) (sorts_next (with_one s sort) sorts)
