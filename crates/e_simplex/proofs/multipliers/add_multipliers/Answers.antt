use Rattle.std.proofs.Common.{◌≡◌, ◌-◌, ◌+◌, ◌++◌, SFits, to_z-of_z, arith, ap, ◌∙◌, get_or, length, true, cond, suc, subst, pos}
use Rattle.std.proofs.lemmas.List.{length_push, take_all}
use mir.Syntax.{w128}
use Rattle.e_fraction.specs.Views.{sense_of, view_of_row}
use Rattle.e_simplex.specs.Naming.{keeps}
use Rattle.e_simplex.specs.inner.RowMultipliers.{AreSeen, multiplier_of_row}
use Rattle.e_simplex.proofs.columns.Forms.{fits_type}
use Rattle.e_simplex.proofs.verdicts.RowMultipliers.{seen_more, count_most}
use Rattle.e_simplex.proofs.multipliers.add_multipliers.Goals as goal

pub loop-row-preserved : goal.loop-row-preserved
loop-row-preserved c =
    let rows = c.args.rows.now in
    let i = c.loop-row.row-index in
    let fm : SFits w128 c.multiplier.result = fits_type c.multiplier.result c.multiplier.type_inv in
    let fw : SFits w128 c.weight_at-weight.result = fits_type c.weight_at-weight.result c.weight_at-weight.type_inv in
    let fl : SFits w128 c.args.last = c.ranges.last in
    let e = simp to_z-of_z at c.in_ok-push.ensures.items in
    let m = simp to_z-of_z at c.multiplier.ensures in
    let inv = simp to_z-of_z at c.loop-row.invariant.seen in
    let is_not : c.is_kept-is_not.result ≡ keeps true (view_of_row (get_or c.args.rows.now c.loop-row.row-index c.row-item.result)).sense
    = c.is_kept-is_not.ensures ∙ ap (λ r. keeps true (sense_of r.sense)) c.row-item.is in
    let place : c.len.result - c.loop-row.nots ≡ length c.loop-row.all.items - c.loop-row.nots = ap (λ v. v - c.loop-row.nots) (c.len.ensures ∙ c.loop-row.all.ok.0) in
    let weight : c.weight_at-weight.result ≡ get_or c.args.weights.now (length c.loop-row.all.items - c.loop-row.nots) (pos 0)
    = c.weight_at-weight.ensures ∙ ap (λ v. get_or c.args.weights.now v (pos 0)) place in
    let next : c.nots_so_far-nots.result ≡ cond (keeps true (view_of_row (get_or c.args.rows.now c.loop-row.row-index c.row-item.result)).sense) (suc c.loop-row.nots) c.loop-row.nots
    = c.nots_so_far-nots.ensures ∙ ap (λ b. cond b (suc c.loop-row.nots) c.loop-row.nots) is_not in
    let value : c.multiplier.result ≡ multiplier_of_row (keeps true (view_of_row (get_or c.args.rows.now c.loop-row.row-index c.row-item.result)).sense) c.loop-row.nots c.args.tried c.args.last (get_or c.args.weights.now (length c.loop-row.all.items - c.loop-row.nots) (pos 0))
    = m ∙ ap (λ b. multiplier_of_row b c.loop-row.nots c.args.tried c.args.last c.weight_at-weight.result) is_not
    ∙ ap (multiplier_of_row (keeps true (view_of_row (get_or rows i c.row-item.result)).sense) c.loop-row.nots c.args.tried c.args.last) weight in
    let longer : length c.push.new.self.items ≡ length c.loop-row.all.items + 1 = ap length e ∙ length_push c.loop-row.all.items c.multiplier.result in
    simp to_z-of_z (record {
      seen = λ before h. seen_more before rows i c.row-item.result c.args.weights.now c.args.tried c.args.last c.multiplier.result c.loop-row.nots c.nots_so_far-nots.result
          c.loop-row.all.items c.push.new.self.items c.loop-row-test.true e value next (inv before h);
      most = omega (arith, longer, c.nots_so_far-nots.ensures, count_most c.is_kept-is_not.result c.loop-row.nots (length c.loop-row.all.items) c.loop-row.invariant.most);
      many = omega (arith, longer, c.loop-row.invariant.many);
    })

pub returns : goal.returns
returns c =
    let fl : SFits w128 c.args.last = c.ranges.last in
    let inv = simp to_z-of_z at c.loop-row.invariant.seen in
    λ before h.
    subst (λ v. AreSeen (before ++ v) c.args.weights.now c.args.tried c.args.last c.loop-row.nots c.loop-row.all.items) (take_all c.loop-row.row-index c.args.rows.now c.loop-row-test.false) (inv before h)
