use Rattle.std.proofs.Common.{subst, take}
use Rattle.e_fraction.specs.Views.{views_of_rows}
use Rattle.e_simplex.specs.Naming.{FormNamed}
use Rattle.e_simplex.proofs.columns.Places.{all_more, all_continued, continues_further}
use Rattle.e_simplex.proofs.naming.terms_and_fresh.Goals as goal

pub loop-row-preserved : goal.loop-row-preserved
loop-row-preserved c =
    let rows = c.args.rows.now in
    let i = c.loop-row.row-index in
    let old = c.loop-row.all.items in
    let new = c.in_ok-all.all.items in
    record {
      once = c.in_ok-all.ensures.once;
      all = all_more new rows i c.row-item.result c.loop-row-test.true (all_continued old new (views_of_rows (take i rows)) c.in_ok-all.ensures.continues c.loop-row.invariant.all)
          (subst (λ r. FormNamed new r.form) c.row-item.is c.in_ok-all.ensures.row);
      continues = continues_further c.args.terms.items old new c.loop-row.invariant.continues c.in_ok-all.ensures.continues;
    }
