-- The weights of constraints as multipliers of rows.
use Rattle.std.specs.Prelude.{◌≡◌, length, ℕ, zero, suc, cond, eqb, Bool, true, ℤ, pos, List, [], ◌∷◌, get_or}
use Rattle.e_literal.specs.Rows.{Row}
use Rattle.e_fraction.specs.declared.row.Row.{Row as GivenRow}
use Rattle.e_fraction.specs.Views.{views_of_rows}
use Rattle.e_simplex.specs.Naming.{keeps}

-- the weights from n on, for the rows that do not say `not 0`; of the others the one counted as k
-- has the weight `last`, and the rest 0
abbrev pub row_multipliers : List Row → List ℤ → ℕ → ℕ → ℤ → List ℤ
row_multipliers [] ws n k last = []
row_multipliers (r ∷ rs) ws n zero last =
    cond (keeps true r.sense) (pos 0 ∷ row_multipliers rs ws n zero last)
    (get_or ws n (pos 0) ∷ row_multipliers rs ws (suc n) zero last)
row_multipliers (r ∷ rs) ws n (suc k) last =
    cond (keeps true r.sense) (cond (eqb k 0) last (pos 0) ∷ row_multipliers rs ws n k last)
    (get_or ws n (pos 0) ∷ row_multipliers rs ws (suc n) (suc k) last)

-- how many rows say `not 0`
abbrev pub count_nots : List Row → ℕ
count_nots [] = 0
count_nots (r ∷ rs) = cond (keeps true r.sense) (suc (count_nots rs)) (count_nots rs)

abbrev pub multiplier_of_row : Bool → ℕ → ℕ → ℤ → ℤ → ℤ
multiplier_of_row is_not seen k last weight =
    cond is_not (cond (eqb (suc seen) k) last (pos 0)) weight

-- the multipliers of the rows, of which so many say `not 0`
pub record AreSeen (rows : List GivenRow) (weights : List ℤ) (tried : ℕ) (last : ℤ) (nots : ℕ)
    (all : List ℤ) : Type 0 where
  pub many : length all ≡ length rows
  pub nots_are : nots ≡ count_nots (views_of_rows rows)
  pub value : all ≡ row_multipliers (views_of_rows rows) weights 0 tried last
