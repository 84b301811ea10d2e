-- The product fits.
use Rattle.std.proofs.Common.{◌≡◌, ◌≤◌, ◌^◌, ◌∙◌, ◌*ℤ◌, to_z-of_z, SFits, arith, rules}
use Rattle.std.specs.Prelude.{unsigned_abs}
use mir.Syntax.{w64, w128}
use Rattle.e_literal.specs.Rows.{coefficient}
use Rattle.e_literal.proofs.Arith.{fits_wide}
use Rattle.e_fraction.proofs.Sums.{product_size, small_coefficient}
use Rattle.e_fraction.proofs.sum.weigh.Goals as goal

pub overflow_mul-result : goal.overflow_mul-result
overflow_mul-result c =
    let fm : SFits w128 c.args.multiplier = c.ranges.multiplier in
    let ff : SFits w64 c.coefficient.result = search rules in
    let e : c.from.result ≡ c.coefficient.result = simp to_z-of_z at c.from.ensures in
    let of : c.coefficient.result ≡ coefficient c.args.row.now.form c.args.term = c.coefficient.ensures.value in
    let r = e ∙ of in
    let k = small_coefficient c.args.row.now.form c.args.term c.requires.row c.coefficient.ensures.distinct in
    let s : unsigned_abs (c.args.multiplier *ℤ coefficient c.args.row.now.form c.args.term) ≤ 2 ^ 110 = product_size c.args.multiplier (coefficient c.args.row.now.form c.args.term) c.requires.multiplier k in
    let fp : SFits w128 (c.args.multiplier *ℤ coefficient c.args.row.now.form c.args.term) = fits_wide (c.args.multiplier *ℤ coefficient c.args.row.now.form c.args.term) (omega (arith, s)) in
    let fd : SFits w128 (coefficient c.args.row.now.form c.args.term) = fits_wide (coefficient c.args.row.now.form c.args.term) (omega (arith, k)) in
    rw r (simp to_z-of_z fp)

pub returns-clause-value : goal.returns-clause-value
returns-clause-value c =
    let fm : SFits w128 c.args.multiplier = c.ranges.multiplier in
    let ff : SFits w64 c.coefficient.result = search rules in
    let e : c.from.result ≡ c.coefficient.result = simp to_z-of_z at c.from.ensures in
    let of : c.coefficient.result ≡ coefficient c.args.row.now.form c.args.term = c.coefficient.ensures.value in
    let r = e ∙ of in
    let k = small_coefficient c.args.row.now.form c.args.term c.requires.row c.coefficient.ensures.distinct in
    let s : unsigned_abs (c.args.multiplier *ℤ coefficient c.args.row.now.form c.args.term) ≤ 2 ^ 110 = product_size c.args.multiplier (coefficient c.args.row.now.form c.args.term) c.requires.multiplier k in
    let fp : SFits w128 (c.args.multiplier *ℤ coefficient c.args.row.now.form c.args.term) = fits_wide (c.args.multiplier *ℤ coefficient c.args.row.now.form c.args.term) (omega (arith, s)) in
    let fd : SFits w128 (coefficient c.args.row.now.form c.args.term) = fits_wide (coefficient c.args.row.now.form c.args.term) (omega (arith, k)) in
    rw r (simp to_z-of_z)

pub returns-clause-size : goal.returns-clause-size
returns-clause-size c =
    let fm : SFits w128 c.args.multiplier = c.ranges.multiplier in
    let ff : SFits w64 c.coefficient.result = search rules in
    let e : c.from.result ≡ c.coefficient.result = simp to_z-of_z at c.from.ensures in
    let of : c.coefficient.result ≡ coefficient c.args.row.now.form c.args.term = c.coefficient.ensures.value in
    let r = e ∙ of in
    let k = small_coefficient c.args.row.now.form c.args.term c.requires.row c.coefficient.ensures.distinct in
    let s : unsigned_abs (c.args.multiplier *ℤ coefficient c.args.row.now.form c.args.term) ≤ 2 ^ 110 = product_size c.args.multiplier (coefficient c.args.row.now.form c.args.term) c.requires.multiplier k in
    let fp : SFits w128 (c.args.multiplier *ℤ coefficient c.args.row.now.form c.args.term) = fits_wide (c.args.multiplier *ℤ coefficient c.args.row.now.form c.args.term) (omega (arith, s)) in
    let fd : SFits w128 (coefficient c.args.row.now.form c.args.term) = fits_wide (coefficient c.args.row.now.form c.args.term) (omega (arith, k)) in
    rw r (simp to_z-of_z s)
