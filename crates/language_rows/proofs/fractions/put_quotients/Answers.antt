-- The quotients are 8 and 2 ^ 128.
use Rattle.std.proofs.Common.{◌^◌, refl, pos, arith}
use Rattle.e_literal.proofs.Arith.{sums}
use Rattle.language_rows.proofs.fractions.put_quotients.Goals as goal

pub cross-requires : goal.cross-requires
cross-requires c = record { nonzero = λ e. omega (arith, sums, e); exact = (pos 8, refl) }

pub cross-requires-2 : goal.cross-requires-2
cross-requires-2 c = record { nonzero = λ e. omega (arith, sums, e); exact = (pos (2 ^ 128), refl) }
