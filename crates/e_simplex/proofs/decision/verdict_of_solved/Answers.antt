use Rattle.std.proofs.Common.{◌++◌, ◌+◌, arith, ◌∙◌, ap, sym, subst, length, true, false}
use Rattle.e_fraction.specs.Views.{views_of_rows}
use Rattle.e_simplex.specs.Naming.{named_constraints}
use Rattle.e_simplex.specs.Constraints.{AllSmallConstraints}
use Rattle.e_simplex.specs.Solved.{columns_of}
use Rattle.e_simplex.specs.inner.Paired.{PairedTo}
use Rattle.e_simplex.specs.inner.Disequalities.{AreBothRefuted}
use Rattle.e_fraction.proofs.Wideness.{wide_rows_width}
use Rattle.e_simplex.proofs.verdicts.Refuting.{length_seen, solved_further, solved_wide, solved_unequal, solved_both_refuted}
use Rattle.e_simplex.proofs.columns.NamedConstraints.{further_constraints}
use Rattle.e_simplex.proofs.columns.WideRows.{wide_with_some_over}
use Rattle.e_simplex.proofs.columns.SpareColumns.{narrow_both}
use Rattle.e_simplex.proofs.verdicts.Assigning.{values_answered}
use Rattle.e_simplex.proofs.decision.verdict_of_solved.Goals as goal

pub satisfy_all-requires-clause-forms : goal.satisfy_all-requires-clause-forms
satisfy_all-requires-clause-forms c =
    let ts = c.args.terms.now in
    let rows = views_of_rows (c.args.rows.now ++ c.args.more.now) in
    solved_further c.args.solved.now (columns_of c.args.solved.now) (named_constraints false ts rows) (named_constraints true ts rows) c.deref.result.now
    c.requires.solved (c.deref.ensures.value ∙ c.in_ok-forms.ensures.value)
    (further_constraints ts rows (columns_of c.args.solved.now) c.requires.room c.requires.counted (omega (arith, length_seen (c.args.rows.now ++ c.args.more.now), c.requires.few)) c.requires.named c.requires.solved.fit.small
    (subst AllSmallConstraints c.in_ok-forms.ensures.value c.in_ok-forms.ensures.small))

pub returns-in-TooWide : goal.returns-in-TooWide
returns-in-TooWide c =
    let ts = c.args.terms.now in
    let rows = views_of_rows (c.args.rows.now ++ c.args.more.now) in
    let h = rw c.in-TooWide.is at c.in_ok-satisfy_all.ensures in
    let w = wide_with_some_over ts rows (columns_of c.args.solved.now) c.requires.once c.requires.named
    (solved_wide c.args.solved.now (columns_of c.args.solved.now) (named_constraints false ts rows) (named_constraints true ts rows) c.deref.result.now
    c.requires.solved (c.deref.ensures.value ∙ c.in_ok-forms.ensures.value) h) in
    (w, wide_rows_width rows w)

pub named_values-requires : goal.named_values-requires
named_values-requires c =
    let ts = c.args.terms.now in
    let rows = views_of_rows (c.args.rows.now ++ c.args.more.now) in
    let h = rw c.in-Found.is at c.in_ok-satisfy_all.ensures in
    omega (arith, c.requires.room, h.solution.shape, ap length c.deref-in-Found.ensures.value)

pub returns-in-Found : goal.returns-in-Found
returns-in-Found c =
    let ts = c.args.terms.now in
    let rows = views_of_rows (c.args.rows.now ++ c.args.more.now) in
    let h = rw c.in-Found.is at c.in_ok-satisfy_all.ensures in
    values_answered ts rows (columns_of c.args.solved.now) c.in-Found.values.items c.in_ok-values-in-Found.values c.requires.room c.requires.once c.requires.named
    (solved_unequal c.args.solved.now (columns_of c.args.solved.now) (named_constraints false ts rows) (named_constraints true ts rows) c.deref.result.now
    c.in-Found.values.items c.requires.solved (c.deref.ensures.value ∙ c.in_ok-forms.ensures.value) h)
    (subst (λ v. PairedTo (length ts) ts v c.in_ok-values-in-Found.values) c.deref-in-Found.ensures.value c.in_ok-values-in-Found.ensures)

pub refuted_both-requires-clause-weights : goal.refuted_both-requires-clause-weights
refuted_both-requires-clause-weights c =
    let ts = c.args.terms.now in
    let rows = views_of_rows (c.args.rows.now ++ c.args.more.now) in
    let h = rw c.in-BothRefuted.is at c.in_ok-satisfy_all.ensures in
    let b = solved_both_refuted c.args.solved.now (columns_of c.args.solved.now) (named_constraints false ts rows) (named_constraints true ts rows) c.deref.result.now
    c.in-BothRefuted.k c.in-BothRefuted.above.items c.in-BothRefuted.below.items c.requires.solved (c.deref.ensures.value ∙ c.in_ok-forms.ensures.value) h in
    let n = narrow_both (length ts + 1) (columns_of c.args.solved.now) (named_constraints false ts rows) (named_constraints true ts rows)
    c.in-BothRefuted.k c.in-BothRefuted.above.items c.in-BothRefuted.below.items (omega (arith, c.requires.room)) b in
    record {
      terms = ts;
      once = c.requires.once;
      named = c.requires.named;
      both = subst (λ v. AreBothRefuted (length ts + 1) (named_constraints false ts rows) (named_constraints true ts rows) c.in-BothRefuted.k v c.deref-in-BothRefuted-2.result.now) (sym c.deref-in-BothRefuted.ensures.value)
          (subst (λ v. AreBothRefuted (length ts + 1) (named_constraints false ts rows) (named_constraints true ts rows) c.in-BothRefuted.k c.in-BothRefuted.above.items v) (sym c.deref-in-BothRefuted-2.ensures.value) n);
    }
