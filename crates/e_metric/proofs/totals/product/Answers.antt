use Rattle.std.proofs.Common.{◌≡◌, ◌*ℤ◌, to_z-of_z, SFits, arith}
use mir.Syntax.{w64, w128}
use Rattle.e_literal.proofs.Arith.{fits_wide}
use Rattle.e_fraction.proofs.Sums.{product_size}
use Rattle.e_metric.proofs.totals.product.Goals as goal

pub overflow_mul-result : goal.overflow_mul-result
overflow_mul-result c =
    let fm : SFits w128 c.args.weight = c.ranges.weight in
    let ff : SFits w64 c.args.coefficient = c.ranges.coefficient in
    let r : c.from.result ≡ c.args.coefficient = simp to_z-of_z at c.from.ensures in
    let s = product_size c.args.weight c.args.coefficient c.requires.weight c.requires.coefficient in
    let fp : SFits w128 (c.args.weight *ℤ c.args.coefficient) = fits_wide (c.args.weight *ℤ c.args.coefficient) (omega (arith, s)) in
    let fd : SFits w128 c.args.coefficient = fits_wide c.args.coefficient (omega (arith, c.requires.coefficient)) in
    rw r (simp to_z-of_z fp)

pub returns-clause-value : goal.returns-clause-value
returns-clause-value c =
    let fm : SFits w128 c.args.weight = c.ranges.weight in
    let ff : SFits w64 c.args.coefficient = c.ranges.coefficient in
    let r : c.from.result ≡ c.args.coefficient = simp to_z-of_z at c.from.ensures in
    let s = product_size c.args.weight c.args.coefficient c.requires.weight c.requires.coefficient in
    let fp : SFits w128 (c.args.weight *ℤ c.args.coefficient) = fits_wide (c.args.weight *ℤ c.args.coefficient) (omega (arith, s)) in
    let fd : SFits w128 c.args.coefficient = fits_wide c.args.coefficient (omega (arith, c.requires.coefficient)) in
    rw r (simp to_z-of_z)

pub returns-clause-size : goal.returns-clause-size
returns-clause-size c =
    let fm : SFits w128 c.args.weight = c.ranges.weight in
    let ff : SFits w64 c.args.coefficient = c.ranges.coefficient in
    let r : c.from.result ≡ c.args.coefficient = simp to_z-of_z at c.from.ensures in
    let s = product_size c.args.weight c.args.coefficient c.requires.weight c.requires.coefficient in
    let fp : SFits w128 (c.args.weight *ℤ c.args.coefficient) = fits_wide (c.args.weight *ℤ c.args.coefficient) (omega (arith, s)) in
    let fd : SFits w128 c.args.coefficient = fits_wide c.args.coefficient (omega (arith, c.requires.coefficient)) in
    rw r (simp to_z-of_z s)
