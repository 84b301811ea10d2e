-- When a sum of rows is absurd.
use Rattle.std.specs.Prelude.{List, [], ◌∷◌, map, Bool, true, false, ◌&&◌, ℤ, pos, ◌+ℤ◌, ◌*ℤ◌}
use Rattle.std.specs.Prelude.{int_le}
use Rattle.std.specs.List.{list_any, list_all}
use Rattle.std.specs.Ordering.{int_eq}
use Rattle.e_literal.specs.declared.object.Term.{Term}
use Rattle.e_literal.specs.Rows.{Row, Sense, Zero, AtLeast, More, Not, coefficient, terms_of_rows}

-- a row with its multiplier
pub record Weighed : Type 0 where
  pub multiplier : ℤ
  pub row : Row

-- the coefficient of a term in the sum
abbrev pub total : List Weighed → Term → ℤ
total [] t = pos 0
total (w ∷ ws) t = w.multiplier *ℤ coefficient w.row.form t +ℤ total ws t

-- only a row that says 0 may be taken away, and one that says that its form is not 0 takes no part
abbrev pub allows_multiplier : Sense → ℤ → Bool
allows_multiplier Zero n = true
allows_multiplier AtLeast n = int_le (pos 0) n
allows_multiplier More n = int_le (pos 0) n
allows_multiplier Not n = false

abbrev pub is_strict : Sense → ℤ → Bool
is_strict More n = int_le (pos 1) n
is_strict _ n = false

-- all terms cancel, no row that says at least or more is taken away, and one that says more is
-- added
abbrev pub is_absurd : List Weighed → Bool
is_absurd ws =
    list_all (λ t. int_eq (total ws t) (pos 0)) (terms_of_rows (map (λ w. w.row) ws))
    && (list_all (λ w. allows_multiplier w.row.sense w.multiplier) ws
    && list_any (λ w. is_strict w.row.sense w.multiplier) ws)
