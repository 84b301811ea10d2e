-- Signs of squares.
use Rattle.std.proofs.Common.{◌≡◌, zero, suc, refl, arith}
use lib.IntN.{ℤ, pos, negsuc, ◌*ℤ◌}
use lib.Signed.{◌≤ℤ◌, ◌<ℤ◌}
use Rattle.e_literal.proofs.Arith.{sums}

pub square-not_negative : (a : ℤ) → pos 0 ≤ℤ (a *ℤ a)
square-not_negative (pos m) = omega (arith, sums)
square-not_negative (negsuc m) = omega (arith, sums)

pub square-positive : (a : ℤ) → (a ≡ pos 0 → ⊥) → pos 0 <ℤ (a *ℤ a)
square-positive (pos zero) f = absurd (f refl)
square-positive (pos (suc n)) f = omega (arith, sums)
square-positive (negsuc n) f = omega (arith, sums)
