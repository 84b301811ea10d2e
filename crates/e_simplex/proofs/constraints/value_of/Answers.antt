use Rattle.std.proofs.Common.{◌≤◌, ◌^◌, ◌+ℤ◌, ◌+◌, ◌*◌, to_z, SFits, to_z-of_z, arith}
use Rattle.std.specs.Prelude.{unsigned_abs}
use mir.Syntax.{w128}
use Rattle.e_simplex.proofs.columns.Forms.{form_value_more, sum_size, part_size}
use Rattle.e_simplex.proofs.constraints.value_of.Goals as goal
use Rattle.e_literal.proofs.Arith.{fits_wide}

pub overflow_add-sum : goal.overflow_add-sum
overflow_add-sum c =
    let k : unsigned_abs c.part-part.result ≤ 2 ^ 93
    = part_size c.args.form.now c.args.values.now c.requires.small c.requires.within c.requires.values c.loop-x.x-index _ c.part-part.result c.loop-x-test.true c.part-part.ensures in
    let fr : SFits w128 c.part-part.result = fits_wide c.part-part.result (omega (arith, k)) in
    let s : unsigned_abs (to_z w128 c.loop-x.sum-bits +ℤ c.part-part.result) ≤ (c.loop-x.x-index + 1) * 2 ^ 93
    = sum_size (to_z w128 c.loop-x.sum-bits) c.part-part.result c.loop-x.x-index (2 ^ 93) c.loop-x.invariant.small k in
    simp to_z-of_z
    (fits_wide (to_z w128 c.loop-x.sum-bits +ℤ c.part-part.result) (omega (arith, s, c.requires.short, c.loop-x-test.true)))

pub loop-x-preserved : goal.loop-x-preserved
loop-x-preserved c =
    let t = to_z w128 c.loop-x.sum-bits in
    let r = c.part-part.result in
    let k : unsigned_abs c.part-part.result ≤ 2 ^ 93
    = part_size c.args.form.now c.args.values.now c.requires.small c.requires.within c.requires.values c.loop-x.x-index _ c.part-part.result c.loop-x-test.true c.part-part.ensures in
    let fr : SFits w128 c.part-part.result = fits_wide c.part-part.result (omega (arith, k)) in
    let s : unsigned_abs (to_z w128 c.loop-x.sum-bits +ℤ c.part-part.result) ≤ (c.loop-x.x-index + 1) * 2 ^ 93
    = sum_size t r c.loop-x.x-index (2 ^ 93) c.loop-x.invariant.small k in
    let fs : SFits w128 (to_z w128 c.loop-x.sum-bits +ℤ c.part-part.result)
    = fits_wide (to_z w128 c.loop-x.sum-bits +ℤ c.part-part.result) (omega (arith, s, c.requires.short, c.loop-x-test.true)) in
    simp to_z-of_z (record {
      value = form_value_more c.args.form.now c.loop-x.x-index _ c.args.values.now t r c.loop-x-test.true c.loop-x.invariant.value c.part-part.ensures;
      small = s;
    })
