-- Values of terms that satisfy rows.
use Rattle.std.specs.Prelude.{◌≡◌, ◌≢◌, ℕ, List, [], ◌∷◌, ℤ, pos, ◌+ℤ◌, ◌*ℤ◌, ◌≤ℤ◌, ◌<ℤ◌}
use Rattle.std.specs.Prelude.{if◌then◌else◌}
use Rattle.e_literal.specs.declared.object.Term.{Term}
use Rattle.e_literal.specs.Rows.{Row, Sense, Zero, AtLeast, More, Not, Summands, is_degenerate}
use Rattle.e_literal.specs.Same.{canonical}

-- the value of a form where each term has a whole number
abbrev pub form_value : Summands → (Term → ℕ) → ℤ
form_value [] values = pos 0
form_value (p ∷ ps) values = p.0 *ℤ pos (values p.1) +ℤ form_value ps values

-- what a row says is so of the value of its form
abbrev pub IsSo : Sense → ℤ → Type 0
IsSo Zero z = z ≡ pos 0
IsSo AtLeast z = pos 0 ≤ℤ z
IsSo More z = pos 0 <ℤ z
IsSo Not z = z ≢ pos 0

-- the values satisfy each row
abbrev pub Satisfy : (Term → ℕ) → List Row → Type 0
Satisfy values [] = Unit {0}
Satisfy values (r ∷ rs) = IsSo r.sense (form_value r.form values) × Satisfy values rs

-- some values satisfy the rows
pub record HasSolution (rows : List Row) : Type 0 where
  pub values : Term → ℕ
  pub satisfy : Satisfy values rows

-- values of terms that are written one way, for all terms: terms that are one term have one value,
-- and those that are 0 have 0
abbrev pub values_for_all : (Term → ℕ) → Term → ℕ
values_for_all values t = if is_degenerate t then 0 else values (canonical t)
