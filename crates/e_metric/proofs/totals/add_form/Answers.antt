use Rattle.std.proofs.Common.{ℤ, pos, ◌+ℤ◌, ◌∙◌, ◌∷◌, [], SFits, to_z-of_z, rules, get_or, take, ap}
use mir.Syntax.{w64, w128}
use Rattle.e_literal.specs.declared.object.Term.{Term}
use Rattle.e_literal.specs.declared.object.Term.TheVariants.{Seg}
use Rattle.e_literal.specs.Rows.{coefficient}
use Rattle.e_fraction.proofs.Sums.{small_coefficient}
use Rattle.e_metric.specs.inner.TermTotals.{kept_total}
use Rattle.e_metric.proofs.sums.TermTotals.{nothing_added, small_at, small_front, distinct_front, room_for, one_summand}
use Rattle.e_metric.proofs.totals.add_form.Goals as goal

abbrev none : ℤ × Term
none = (pos 0, Seg 0 0)

pub returns-then-is_nothing : goal.returns-then-is_nothing
returns-then-is_nothing c t =
    let m : SFits w128 c.args.weight = c.ranges.weight in
    let e = simp to_z-of_z at c.is_nothing.ensures in
    nothing_added (kept_total c.args.totals.now.entries t) c.args.weight (coefficient c.args.form.now t) (e c.if-is_nothing.true)

pub product-requires-clause-coefficient : goal.product-requires-clause-coefficient
product-requires-clause-coefficient c =
    let f : SFits w64 (get_or {A = ℤ × Term} c.args.form.now c.loop-summand.summand-index none).0 = search rules in
    simp to_z-of_z (small_at c.args.form.now c.loop-summand.summand-index none c.loop-summand-test.true c.requires.small)

pub add_to-requires : goal.add_to-requires
add_to-requires c =
    let m : SFits w128 c.args.weight = c.ranges.weight in
    let p : SFits w128 c.product.result = search rules in
    let so_far = simp to_z-of_z at c.loop-summand.invariant in
    let form = c.args.form.now in
    let i = c.loop-summand.summand-index in
    let u = (get_or {A = ℤ × Term} form i none).1 in
    simp to_z-of_z (room_for (kept_total c.args.totals.now.entries u) c.args.weight (coefficient (take i form) u) c.product.result (kept_total c.loop-summand.totals.entries u) (so_far u) (c.requires.room u) c.requires.weight
    (small_coefficient (take i form) u (small_front form i c.requires.small) (distinct_front form i c.requires.distinct)) c.product.ensures.size)

pub loop-summand-preserved : goal.loop-summand-preserved
loop-summand-preserved c t =
    let m : SFits w128 c.args.weight = c.ranges.weight in
    let p : SFits w128 c.product.result = search rules in
    let form = c.args.form.now in
    let i = c.loop-summand.summand-index in
    let f : SFits w64 (get_or {A = ℤ × Term} form i none).0 = search rules in
    let so_far = simp to_z-of_z at c.loop-summand.invariant in
    let more = simp to_z-of_z at c.in_ok-add_to.ensures in
    let is = simp to_z-of_z at c.product.ensures.value in
    simp to_z-of_z (one_summand (kept_total c.args.totals.now.entries t) c.args.weight (kept_total c.loop-summand.totals.entries t) (kept_total c.add_to.new.totals.entries t) form i none t c.loop-summand-test.true (so_far t)
    (more t ∙ ap (λ n. kept_total c.loop-summand.totals.entries t +ℤ coefficient ((n, (get_or {A = ℤ × Term} form i none).1) ∷ []) t) is))
