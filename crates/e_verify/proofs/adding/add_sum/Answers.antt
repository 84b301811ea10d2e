use Rattle.std.proofs.Common.{◌+ℤ◌, SFits, to_z-of_z, rules, get_or, ap, ◌∙◌}
use mir.Syntax.{w128}
use Rattle.e_literal.specs.declared.object.Term.TheVariants.{Seg}
use Rattle.e_literal.specs.declared.object.Mono.{Mono}
use Rattle.e_verify.specs.inner.Totals.{total_at}
use Rattle.e_verify.proofs.arithmetic.Coefficients.{single, added_one}
use Rattle.e_verify.proofs.adding.add_sum.Goals as goal

abbrev none : Mono
none = record { coeff = 0; term = Seg 0 0 }

pub loop-m-preserved : goal.loop-m-preserved
loop-m-preserved c t =
    let m : SFits w128 c.args.multiplier = c.ranges.multiplier in
    let p : SFits w128 c.product.result = search rules in
    let so_far = simp to_z-of_z at c.loop-m.invariant in
    let more = simp to_z-of_z at c.in_ok-add.ensures in
    let is = simp to_z-of_z at c.product.ensures in
    simp to_z-of_z (added_one (total_at c.args.totals.now t) c.args.multiplier (total_at c.loop-m.totals t) (total_at c.add.new.self t) c.args.sum.now c.loop-m.m-index none t c.loop-m-test.true
    (so_far t) (more t ∙ ap (λ n. total_at c.loop-m.totals t +ℤ single n (get_or c.args.sum.now c.loop-m.m-index none).term t) is))
