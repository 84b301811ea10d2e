-- The product fits.
use Rattle.std.proofs.Common.{◌≤◌, ◌^◌, ◌*ℤ◌, refl, to_z-of_z, SFits, arith}
use Rattle.std.specs.Prelude.{unsigned_abs}
use Rattle.std.proofs.lemmas.Int.{fits_signed_mul}
use mir.Syntax.{w128}
use Rattle.e_literal.proofs.Arith.{product_size}
use Rattle.e_figure.proofs.measure.product.Goals as goal

pub returns : goal.returns
returns c =
    let fa : SFits w128 c.args.a = c.ranges.a in
    let fb : SFits w128 c.args.b = c.ranges.b in
    let s : unsigned_abs (c.args.a *ℤ c.args.b) ≤ 2 ^ 96 = product_size c.args.a c.args.b (2 ^ 48) (2 ^ 48) c.requires.a c.requires.b in
    let fp : SFits w128 (c.args.a *ℤ c.args.b) = fits_signed_mul w128 c.args.a c.args.b (2 ^ 48) (2 ^ 48) c.requires.a c.requires.b (omega arith) in
    simp to_z-of_z (record { value = refl; size = s })
