-- The product fits.
use Rattle.std.proofs.Common.{◌≤◌, ◌^◌, ◌*ℤ◌, pos, refl, to_z-of_z, SFits, arith}
use Rattle.std.specs.Prelude.{unsigned_abs}
use Rattle.std.proofs.lemmas.Int.{ints, fits_signed_mul}
use mir.Syntax.{w128}
use Rattle.e_literal.proofs.Arith.{product_size}
use Rattle.e_figure.proofs.measure.four_times.Goals as goal

pub returns : goal.returns
returns c =
    let fa : SFits w128 c.args.a = c.ranges.a in
    let s : unsigned_abs (pos 4 *ℤ c.args.a) ≤ 2 ^ 98 = product_size (pos 4) c.args.a 4 (2 ^ 96) (omega (arith, ints)) c.requires in
    let fp : SFits w128 (pos 4 *ℤ c.args.a) = fits_signed_mul w128 (pos 4) c.args.a 4 (2 ^ 96) (omega (arith, ints)) c.requires (omega arith) in
    simp to_z-of_z (record { value = refl; size = s })
