use Rattle.std.proofs.Common.{◌++◌, ◌+◌, arith, sym, subst, false, length}
use Rattle.e_fraction.specs.Views.{views_of_rows}
use Rattle.e_fraction.proofs.Wideness.{wide_rows_width}
use Rattle.e_simplex.specs.Constraints.{IsAbsurd}
use Rattle.e_simplex.specs.Naming.{named_constraints}
use Rattle.e_simplex.specs.Solved.{IsSolved}
use Rattle.e_simplex.proofs.columns.WideRows.{wide_over}
use Rattle.e_simplex.proofs.columns.SpareColumns.{narrow_absurd}
use Rattle.e_simplex.proofs.decision.verdict_of.Goals as goal

pub returns-in-TooWide : goal.returns-in-TooWide
returns-in-TooWide c =
    let o = c.requires.outcome in
    let h = rw c.in-TooWide.is at o.3 in
    let w = wide_over c.args.terms.now (views_of_rows (c.args.rows.now ++ c.args.more.now)) o.0 c.requires.once c.requires.named h in
    (w, wide_rows_width (views_of_rows (c.args.rows.now ++ c.args.more.now)) w)

pub refuted_once-requires-clause-weights : goal.refuted_once-requires-clause-weights
refuted_once-requires-clause-weights c =
    let o = c.requires.outcome in
    let h = rw c.in-Absurd.is at o.3 in
    record {
      terms = c.args.terms.now;
      once = c.requires.once;
      named = c.requires.named;
      absurd = subst (IsAbsurd (length c.args.terms.now + 1) (named_constraints false c.args.terms.now (views_of_rows (c.args.rows.now ++ c.args.more.now)))) (sym c.deref.ensures.value)
          (narrow_absurd (length c.args.terms.now + 1) o.0 (named_constraints false c.args.terms.now (views_of_rows (c.args.rows.now ++ c.args.more.now))) c.in-Absurd.weights.items (omega (arith, o.1)) h);
    }

pub verdict_of_solved-requires-clause-room : goal.verdict_of_solved-requires-clause-room
verdict_of_solved-requires-clause-room c =
    let o = c.requires.outcome in
    let h = rw c.in-Holds.is at o.3 in
    omega (arith, o.1, h.table.columns_many)

pub verdict_of_solved-requires-clause-counted : goal.verdict_of_solved-requires-clause-counted
verdict_of_solved-requires-clause-counted c =
    let o = c.requires.outcome in
    let h = rw c.in-Holds.is at o.3 in
    omega (arith, o.2, h.table.columns_many)

pub verdict_of_solved-requires-clause-solved : goal.verdict_of_solved-requires-clause-solved
verdict_of_solved-requires-clause-solved c =
    let o = c.requires.outcome in
    let h = rw c.in-Holds.is at o.3 in
    subst (λ v. IsSolved v (named_constraints false c.args.terms.now (views_of_rows (c.args.rows.now ++ c.args.more.now))) c.in-Holds.solved) (sym h.table.columns_many) h
