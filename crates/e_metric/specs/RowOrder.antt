-- Rows in another order.
use Rattle.std.specs.Prelude.{◌≡◌, ◌⊎◌, List, [], ◌∷◌, ◌++◌, map, length}
use Rattle.e_literal.specs.Minor.{IsWide}
use Rattle.e_clause.specs.System.{NamedRow}

-- the row is one of these
abbrev pub IsOne : NamedRow → List NamedRow → Type 0
IsOne n [] = ⊥
IsOne n (m ∷ ms) = (n ≡ m) ⊎ IsOne n ms

-- the first rows are the second, in some order, whatever rows come after them
pub record AreReordered (ns ms : List NamedRow) : Type 0 where
  pub there : (n : NamedRow) → IsOne n ns → IsOne n ms
  pub back : (n : NamedRow) → IsOne n ms → IsOne n ns
  pub wide : (more : List NamedRow) → IsWide (map (λ (n : NamedRow). n.row) (ns ++ more))
      → IsWide (map (λ (n : NamedRow). n.row) (ms ++ more))
  pub many : length ns ≡ length ms
