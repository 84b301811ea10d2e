use Rattle.std.proofs.Common.{◌+ℤ◌, ◌*ℤ◌, ◌∙◌, ap, SFits, to_z-of_z, rules}
use mir.Syntax.{w128}
use Rattle.e_literal.specs.Rows.{coefficient, normal_summands, plus}
use Rattle.e_verify.specs.inner.Totals.{total_at}
use Rattle.e_verify.proofs.arithmetic.Coefficients.{added_both, on_ok}
use Rattle.e_verify.proofs.adding.add_difference.Goals as goal

pub returns : goal.returns
returns c =
    let m : SFits w128 c.args.multiplier = c.ranges.multiplier in
    let first = simp to_z-of_z at c.in_ok-add_sum.ensures in
    let n : SFits w128 c.negated_if.result = search rules in
    let second = simp to_z-of_z at c.add_sum-2.ensures in
    let turned = simp to_z-of_z at c.negated_if.ensures.value in
    on_ok c.add_sum-2.result second
    (λ h t. added_both (total_at c.args.totals.now t) c.args.multiplier (total_at c.add_sum.new.totals t) (total_at c.add_sum-2.new.totals t) c.args.plus.now c.args.minus.now t (first t)
    (h t ∙ ap (λ k. total_at c.add_sum.new.totals t +ℤ k *ℤ coefficient (normal_summands (plus c.args.minus.now)) t) turned))
