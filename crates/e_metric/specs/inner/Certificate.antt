-- The sums of a certificate, from multipliers of the rows of a system.
use Rattle.std.specs.Prelude.{◌≡◌, ℕ, ◌≤◌, ◌^◌, List, [], ◌∷◌, ◌++◌, if◌then◌else◌, ℤ, pos, neg_ℤ}
use Rattle.std.specs.Prelude.{int_lt, unsigned_abs, length, get_or, set, IsTrue, Option, Some, None}
use Rattle.std.specs.Borrow.{Bor}
use Rattle.std.specs.Ordering.{int_eq}
use Rattle.e_literal.specs.declared.object.Term.{Term}
use Rattle.e_literal.specs.Same.{canonical}
use Rattle.e_literal.specs.Absurd.{total}
use Rattle.e_clause.specs.declared.cert.RowName.{RowName}
use Rattle.e_clause.specs.declared.cert.RowName.TheVariants.{Goal, Least, Above, Below}
use Rattle.e_clause.specs.declared.cert.Sums.{Sums}
use Rattle.e_clause.specs.declared.cert.Sums.TheVariants.{One as OneSum, Two as TwoSums}
use Rattle.e_fraction.specs.declared.row.Row.{Row as GivenRow}
use Rattle.e_fraction.specs.Limits.{most_rows_of_system, all_small, small_multipliers}
use Rattle.e_fraction.specs.Views.{with_multipliers}
use Rattle.e_simplex.specs.declared.decision.Absurdity.{Absurdity}
use Rattle.e_simplex.specs.declared.decision.Absurdity.TheVariants.{One, Two}

-- the rows may be summed with these weights, and little is left of each term
pub record IsWeighable (rows : List GivenRow) (weights : List ℤ) : Type 0 where
  pub lengths : length weights ≡ length rows
  pub few : length rows ≤ most_rows_of_system
  pub coefficients : IsTrue (all_small rows)
  pub good : IsTrue (small_multipliers weights)
  pub left : (t : Term) → unsigned_abs (total (with_multipliers rows weights) t) ≤ 2 ^ 80

-- the rows whose multiplier is not 0
abbrev pub named_multipliers : List RowName → List ℤ → List (ℤ × RowName)
named_multipliers (n ∷ ns) (m ∷ ms) =
    if int_eq m (pos 0) then named_multipliers ns ms else (m, n) ∷ named_multipliers ns ms
named_multipliers _ _ = []

-- where less than nothing is left of a term, as many times the row that says that it is at least 0
abbrev pub leasts : (Term → ℤ) → List Term → List (ℤ × RowName)
leasts left [] = []
leasts left (t ∷ ts) =
    if int_lt (left (canonical t)) (pos 0)
    then (neg_ℤ (left (canonical t)), Least t) ∷ leasts left ts
    else leasts left ts

-- the rows with their multipliers, and what brings each term to 0, where the terms are weighed by
-- these weights
abbrev pub certificate_sum : List RowName → List GivenRow → List ℤ → List ℤ → List Term
    → List (ℤ × RowName)
certificate_sum names rows multipliers weights terms =
    named_multipliers names multipliers ++ leasts (total (with_multipliers rows weights)) terms

-- the names, where the row at the place has another one, if one is given
abbrev pub renamed_at : List RowName → Option (ℕ × Bor RowName) → List RowName
renamed_at names None = names
renamed_at names (Some p) = set names p.0 p.1.now

-- the number at the place negated
abbrev pub negated_place : List ℤ → ℕ → List ℤ
negated_place ms k = set ms k (neg_ℤ (get_or ms k (pos 0)))

-- one sum; or two, in which the row that differs is named `above` and `below`, and counts the other
-- way in the second
abbrev pub certificate_sums : List RowName → List GivenRow → List Term → Absurdity → Sums
certificate_sums names rows terms (One multipliers) =
    OneSum (certificate_sum names rows multipliers.items multipliers.items terms)
certificate_sums names rows terms (Two row above below) =
    TwoSums (get_or names row Goal)
    (certificate_sum (set names row Above) rows above.items above.items terms)
    (certificate_sum (set names row Below) rows below.items
    (negated_place below.items row) terms)
