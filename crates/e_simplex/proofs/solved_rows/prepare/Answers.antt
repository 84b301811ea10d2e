use Rattle.std.proofs.Common.{◌≡◌, ◌+◌, ◌<◌, ◌^◌, arith, ap, sym, ◌∙◌, subst, length, false, rules}
use Rattle.std.proofs.lemmas.List.{append-nil}
use Rattle.e_fraction.specs.Det.{HasWideMinor}
use Rattle.e_fraction.specs.Views.{views_of_rows}
use Rattle.e_fraction.proofs.Wideness.{wide_rows_width}
use Rattle.e_simplex.specs.Constraints.{AllSmallConstraints, IsAbsurd, rows_of}
use Rattle.e_simplex.specs.Naming.{AllNamed, named_constraints}
use Rattle.e_simplex.specs.Solved.{IsFit, IsSolved}
use Rattle.e_simplex.specs.inner.Weights.{AreWeightsFor}
use Rattle.e_simplex.proofs.columns.NamedConstraints.{fit_constraints}
use Rattle.e_simplex.proofs.columns.WideRows.{wide_over}
use Rattle.e_simplex.proofs.columns.SpareColumns.{narrow_absurd}
use Rattle.e_simplex.proofs.verdicts.Refuting.{length_seen}
use Rattle.e_simplex.proofs.solved_rows.prepare.Goals as goal

pub plain_constraints-requires-clause-named : goal.plain_constraints-requires-clause-named
plain_constraints-requires-clause-named c =
    let a : AllNamed c.in_ok-terms.terms.items (views_of_rows c.args.rows.items) = subst (λ v. AllNamed c.in_ok-terms.terms.items (views_of_rows v)) c.deref.ensures.value c.in_ok-terms.ensures.all in
    subst (λ v. AllNamed v (views_of_rows c.deref-3.result.now)) (sym c.deref-2.ensures.value) (subst (λ v. AllNamed c.in_ok-terms.terms.items (views_of_rows v)) (sym c.deref-3.ensures.value) a)

pub solve_constraints-requires : goal.solve_constraints-requires
solve_constraints-requires c =
    let ts = c.in_ok-terms.terms.items in
    let a : AllNamed ts (views_of_rows c.args.rows.items) = subst (λ v. AllNamed ts (views_of_rows v)) c.deref.ensures.value c.in_ok-terms.ensures.all in
    let n : length c.in_ok-terms.terms.items < 2 ^ 63 = search rules in
    let l : c.in_ok-constraints.constraints.items ≡ named_constraints false ts (views_of_rows c.args.rows.items)
    = c.in_ok-constraints.ensures.value ∙ ap (λ v. named_constraints false v (views_of_rows c.deref-3.result.now)) c.deref-2.ensures.value ∙ ap (λ v. named_constraints false ts (views_of_rows v)) c.deref-3.ensures.value in
    let k : c.len.result ≡ length ts = c.len.ensures ∙ c.in_ok-terms.terms.ok.0 in
    subst (λ v. IsFit (v + 1 + 8) c.in_ok-constraints.constraints.items) (sym k)
    (subst (IsFit (length ts + 1 + 8)) (sym l)
    (fit_constraints ts (views_of_rows c.args.rows.items) (length ts + 1 + 8) (omega arith) (omega (arith, n)) (omega (arith, length_seen c.args.rows.items, c.requires.few)) a
    (subst AllSmallConstraints l c.in_ok-constraints.ensures.small)))

pub refuted_once-requires-clause-weights : goal.refuted_once-requires-clause-weights
refuted_once-requires-clause-weights c =
    let ts = c.in_ok-terms.terms.items in
    let a : AllNamed ts (views_of_rows c.args.rows.items) = subst (λ v. AllNamed ts (views_of_rows v)) c.deref.ensures.value c.in_ok-terms.ensures.all in
    let l : c.in_ok-constraints.constraints.items ≡ named_constraints false ts (views_of_rows c.args.rows.items)
    = c.in_ok-constraints.ensures.value ∙ ap (λ v. named_constraints false v (views_of_rows c.deref-3.result.now)) c.deref-2.ensures.value ∙ ap (λ v. named_constraints false ts (views_of_rows v)) c.deref-3.ensures.value in
    let k : c.len.result ≡ length ts = c.len.ensures ∙ c.in_ok-terms.terms.ok.0 in
    let h = rw c.in-Absurd.is at c.in_ok-solve_constraints.ensures in
    let w : AreWeightsFor (views_of_rows c.args.rows.items) c.in-Absurd.weights.items = record {
      terms = ts;
      once = c.in_ok-terms.ensures.once;
      named = a;
      absurd = narrow_absurd (length ts + 1) (c.len.result + 1 + 8) (named_constraints false ts (views_of_rows c.args.rows.items)) c.in-Absurd.weights.items (omega (arith, k))
          (subst (λ v. IsAbsurd (c.len.result + 1 + 8) v c.in-Absurd.weights.items) l h);
    } in
    subst (λ v. AreWeightsFor (views_of_rows v) c.deref-in-Absurd-2.result.now) (sym (append-nil c.deref-in-Absurd.result.now ∙ c.deref-in-Absurd.ensures.value))
    (subst (AreWeightsFor (views_of_rows c.args.rows.items)) (sym c.deref-in-Absurd-2.ensures.value) w)

pub returns-in-TooWide : goal.returns-in-TooWide
returns-in-TooWide c =
    let ts = c.in_ok-terms.terms.items in
    let a : AllNamed ts (views_of_rows c.args.rows.items) = subst (λ v. AllNamed ts (views_of_rows v)) c.deref.ensures.value c.in_ok-terms.ensures.all in
    let l : c.in_ok-constraints.constraints.items ≡ named_constraints false ts (views_of_rows c.args.rows.items)
    = c.in_ok-constraints.ensures.value ∙ ap (λ v. named_constraints false v (views_of_rows c.deref-3.result.now)) c.deref-2.ensures.value ∙ ap (λ v. named_constraints false ts (views_of_rows v)) c.deref-3.ensures.value in
    let h = rw c.in-TooWide.is at c.in_ok-solve_constraints.ensures in
    let w = wide_over ts (views_of_rows c.args.rows.items) (c.len.result + 1 + 8) c.in_ok-terms.ensures.once a (subst (λ v. HasWideMinor (rows_of v) (c.len.result + 1 + 8) (2 ^ 63)) l h) in
    (w, wide_rows_width (views_of_rows c.args.rows.items) w)

pub with_values-requires-clause-named : goal.with_values-requires-clause-named
with_values-requires-clause-named c = subst (λ v. AllNamed c.in_ok-terms.terms.items (views_of_rows v)) c.deref.ensures.value c.in_ok-terms.ensures.all

pub with_values-requires-clause-room : goal.with_values-requires-clause-room
with_values-requires-clause-room c =
    let h = rw c.in-Holds.is at c.in_ok-solve_constraints.ensures in
    omega (arith, h.table.columns_many, c.len.ensures ∙ c.in_ok-terms.terms.ok.0)

pub with_values-requires-clause-counted : goal.with_values-requires-clause-counted
with_values-requires-clause-counted c =
    let h = rw c.in-Holds.is at c.in_ok-solve_constraints.ensures in
    let n : length c.in_ok-terms.terms.items < 2 ^ 63 = search rules in
    omega (arith, n, h.table.columns_many, c.len.ensures ∙ c.in_ok-terms.terms.ok.0)

pub with_values-requires-clause-solved : goal.with_values-requires-clause-solved
with_values-requires-clause-solved c =
    let ts = c.in_ok-terms.terms.items in
    let l : c.in_ok-constraints.constraints.items ≡ named_constraints false ts (views_of_rows c.args.rows.items)
    = c.in_ok-constraints.ensures.value ∙ ap (λ v. named_constraints false v (views_of_rows c.deref-3.result.now)) c.deref-2.ensures.value ∙ ap (λ v. named_constraints false ts (views_of_rows v)) c.deref-3.ensures.value in
    let h = rw c.in-Holds.is at c.in_ok-solve_constraints.ensures in
    subst (λ v. IsSolved v (named_constraints false ts (views_of_rows c.args.rows.items)) c.in-Holds.solved) (sym h.table.columns_many)
    (subst (λ v. IsSolved (c.len.result + 1 + 8) v c.in-Holds.solved) l h)
