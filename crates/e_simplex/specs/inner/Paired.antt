-- Terms with the values of their columns.
use Rattle.std.specs.Prelude.{◌≡◌, ℕ, suc, ◌<◌, ℤ, pos, List, length, get_or, unsigned_abs}
use Rattle.e_literal.specs.declared.object.Term.{Term}
use Rattle.e_literal.specs.declared.object.Term.TheVariants.{Right}

-- the first n terms, each with the value of its column
pub record PairedTo (n : ℕ) (ts : List Term)
    (values : List ℤ) (pairs : List (Term × ℕ)) : Type 0 where
  pub shape : length pairs ≡ n
  pub term : (c : ℕ) → c < n → (get_or {A = Term × ℕ} pairs c (Right, 0)).0 ≡ get_or ts c Right
  pub number : (c : ℕ) → c < n
      → (get_or {A = Term × ℕ} pairs c (Right, 0)).1 ≡ unsigned_abs (get_or values (suc c) (pos 0))
