use Rattle.std.proofs.Common.{◌≡◌, arith, ap, ◌∙◌, get_or, true, cond, suc}
use Rattle.e_fraction.specs.Views.{sense_of, view_of_row}
use Rattle.e_simplex.specs.Naming.{keeps}
use Rattle.e_simplex.proofs.verdicts.RowMultipliers.{nots_more, count_most}
use Rattle.e_simplex.proofs.multipliers.nots_among.Goals as goal

pub loop-row-preserved : goal.loop-row-preserved
loop-row-preserved c =
    let is_not : c.is_kept.result ≡ keeps true (view_of_row (get_or c.args.rows.now c.loop-row.row-index c.row-item.result)).sense
    = c.is_kept.ensures ∙ ap (λ r. keeps true (sense_of r.sense)) c.row-item.is in
    record {
      count = c.nots_so_far-count.ensures ∙ ap (λ b. cond b (suc c.loop-row.count) c.loop-row.count) is_not
          ∙ nots_more c.args.rows.now c.loop-row.row-index c.row-item.result c.loop-row.count c.loop-row-test.true c.loop-row.invariant.count;
      most = omega (arith, c.nots_so_far-count.ensures, count_most c.is_kept.result c.loop-row.count c.loop-row.row-index c.loop-row.invariant.most);
    }
