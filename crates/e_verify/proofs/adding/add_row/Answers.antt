use Rattle.std.proofs.Common.{◌+ℤ◌, ◌∙◌, ap, SFits, to_z-of_z, rules}
use mir.Syntax.{w128}
use Rattle.e_verify.specs.inner.Totals.{total_at}
use Rattle.e_literal.specs.declared.object.Term.TheVariants.{Right}
use Rattle.e_verify.proofs.arithmetic.Coefficients.{single, added_pos, added_least, added_top, added_sums, on_ok}
use Rattle.e_verify.proofs.adding.add_row.Goals as goal

pub returns-in-Sums : goal.returns-in-Sums
returns-in-Sums c =
    let m : SFits w128 c.args.multiplier = c.ranges.multiplier in
    let n : SFits w128 c.negated_if.result = search rules in
    let more = simp to_z-of_z at c.add_difference.ensures in
    let turned = simp to_z-of_z at c.negated_if.ensures.value in
    let s = c.in-Sums in
    on_ok c.add_difference.result more (λ h t. added_sums c.args.row s.sense s.plus s.minus s.turned t (total_at c.args.totals.now t) c.args.multiplier c.negated_if.result (total_at c.add_difference.new.totals t) s.is turned (h t))

pub returns-in_ok-add-in-Top : goal.returns-in_ok-add-in-Top
returns-in_ok-add-in-Top c =
    let m : SFits w128 c.args.multiplier = c.ranges.multiplier in
    let p : SFits w128 c.product.result = search rules in
    let n : SFits w128 c.negated_if-in-Top.result = search rules in
    let twice = simp to_z-of_z at c.product.ensures in
    let turned = simp to_z-of_z at c.negated_if-in-Top.ensures.value in
    let first = simp to_z-of_z at c.in_ok-add-in-Top.ensures in
    let second = simp to_z-of_z at c.add-in-Top-2.ensures in
    on_ok c.add-in-Top-2.result second
    (λ h t. added_top c.args.row c.in-Top.term t (total_at c.args.totals.now t) c.args.multiplier (total_at c.add-in-Top.new.self t) (total_at c.add-in-Top-2.new.self t) c.in-Top.is
    (first t ∙ ap (λ k. total_at c.args.totals.now t +ℤ single k Right t) twice) (h t ∙ ap (λ k. total_at c.add-in-Top.new.self t +ℤ single k c.in-Top.term t) turned))

pub returns-in-Pos : goal.returns-in-Pos
returns-in-Pos c =
    let m : SFits w128 c.args.multiplier = c.ranges.multiplier in
    let more = simp to_z-of_z at c.add.ensures in
    on_ok c.add.result more (λ h t. added_pos c.args.row c.in-Pos.term t (total_at c.args.totals.now t) c.args.multiplier (total_at c.add.new.self t) c.in-Pos.is (h t))

pub returns-in-Least : goal.returns-in-Least
returns-in-Least c =
    let m : SFits w128 c.args.multiplier = c.ranges.multiplier in
    let more = simp to_z-of_z at c.add-in-Least.ensures in
    on_ok c.add-in-Least.result more (λ h t. added_least c.args.row c.in-Least.term t (total_at c.args.totals.now t) c.args.multiplier (total_at c.add-in-Least.new.self t) c.in-Least.is (h t))
