use Rattle.std.proofs.Common.{◌≡◌, suc, cond, true, get_or, arith, ap, sym, ◌∙◌}
use Rattle.e_fraction.specs.Views.{sense_of, view_of_row}
use Rattle.e_simplex.specs.Naming.{keeps}
use Rattle.e_simplex.proofs.verdicts.RowMultipliers.{nots_more, count_most, is_not_at}
use Rattle.e_simplex.proofs.multipliers.place_of_not.Goals.{else-is_not-via-then-is_not+else-seen-k, else-is_not-via-else-is_not}
use Rattle.e_simplex.proofs.multipliers.place_of_not.Goals as goal

pub returns-then-seen-k-clause-is_not : goal.returns-then-seen-k-clause-is_not
returns-then-seen-k-clause-is_not c =
    let is_not = c.is_kept-is_not.ensures ∙ ap (λ r. keeps true (sense_of r.sense)) c.index-rows-i.is in
    is_not_at c.args.rows.now c.loop-i.i c.index-rows-i.result c.loop-i-test.true (sym is_not ∙ c.if-is_not.true)

pub loop-i-preserved : goal.loop-i-preserved
loop-i-preserved c =
    let is_not : c.is_kept-is_not.result ≡ keeps true (view_of_row (get_or c.args.rows.now c.loop-i.i c.index-rows-i.result)).sense
    = c.is_kept-is_not.ensures ∙ ap (λ r. keeps true (sense_of r.sense)) c.index-rows-i.is in
    record {
      count = c.nots_so_far-seen.ensures ∙ ap (λ b. cond b (suc c.loop-i.seen) c.loop-i.seen) is_not
          ∙ nots_more c.args.rows.now c.loop-i.i c.index-rows-i.result c.loop-i.seen c.loop-i-test.true c.loop-i.invariant.count;
      most = omega (arith, c.nots_so_far-seen.ensures, count_most c.is_kept-is_not.result c.loop-i.seen c.loop-i.i c.loop-i.invariant.most);
      before = elim c.else-is_not.branch [
        | else-is_not-via-then-is_not+else-seen-k w ↦ omega (arith, c.nots_so_far-seen.ensures, ap (λ b. cond b (suc c.loop-i.seen) c.loop-i.seen) w.if-is_not.true, w.if-seen-k.false, c.loop-i.invariant.before)
        | else-is_not-via-else-is_not w ↦ omega (arith, c.nots_so_far-seen.ensures, ap (λ b. cond b (suc c.loop-i.seen) c.loop-i.seen) w.if-is_not.false, c.loop-i.invariant.before)
      ];
    }
