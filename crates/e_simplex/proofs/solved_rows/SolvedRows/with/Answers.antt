use Rattle.std.proofs.Common.{◌≡◌, ◌++◌, ◌+◌, ◌<◌, ◌≤◌, ◌^◌, ap, arith, sym, ◌∙◌, subst, length, false, rules}
use Rattle.std.proofs.lemmas.List.{append-nil}
use Rattle.e_fraction.specs.Views.{views_of_rows}
use Rattle.e_fraction.specs.Limits.{most_rows_of_system}
use Rattle.e_fraction.proofs.Wideness.{wide_rows_width}
use Rattle.e_literal.specs.Minor.{IsWide}
use Rattle.e_literal.specs.Width.{width}
use Rattle.e_simplex.specs.Naming.{AllNamed, named_constraints}
use Rattle.e_simplex.specs.Solved.{IsSolved, columns_of}
use Rattle.e_simplex.specs.inner.Weights.{AreWeightsFor}
use Rattle.e_simplex.specs.declared.solved.Outcome.TheVariants as outcome
use Rattle.e_simplex.proofs.columns.WideRows.{wide_over}
use Rattle.e_simplex.proofs.columns.SpareColumns.{narrow_absurd}
use Rattle.e_simplex.proofs.joined_rows.Extending.{named_both, fit_both, outcome_both}
use Rattle.e_simplex.proofs.solved_rows.SolvedRows.with.Goals as goal

pub grown-requires-clause-fit : goal.grown-requires-clause-fit
grown-requires-clause-fit c =
    let rows = c.self.inside.rows.items in
    let ts = c.in_ok-terms.terms.items in
    let s = c.self.inside.solved in
    let all : AllNamed ts (views_of_rows c.args.more.items) = subst (λ v. AllNamed ts (views_of_rows v)) c.deref.ensures.value c.in_ok-terms.ensures.all in
    let are : c.in_ok-constraints.constraints.items ≡ named_constraints false ts (views_of_rows c.args.more.items)
    = c.in_ok-constraints.ensures.value ∙ ap (λ v. named_constraints false v (views_of_rows c.deref-3.result.now)) c.deref-2.ensures.value ∙ ap (λ v. named_constraints false ts (views_of_rows v)) c.deref-3.ensures.value in
    let room : length ts < columns_of s = omega (arith, c.if-width-len.false, c.width.ensures, c.len.ensures ∙ c.in_ok-terms.terms.ok.0) in
    let n : length s.columns.items < 2 ^ 63 = search rules in
    let few : length (rows ++ c.args.more.items) ≤ most_rows_of_system = subst (λ v. length (v ++ c.args.more.items) ≤ most_rows_of_system) (sym c.self.view_is) c.requires.few in
    fit_both rows c.args.more.items c.self.inside.terms.items ts s c.self.invariant.table c.in_ok-terms.ensures.continues all c.in_ok-constraints.constraints.items are room (omega (arith, n)) few c.in_ok-constraints.ensures.small

pub refuted_once-requires-clause-weights : goal.refuted_once-requires-clause-weights
refuted_once-requires-clause-weights c =
    let rows = c.self.inside.rows.items in
    let ts = c.in_ok-terms.terms.items in
    let s = c.self.inside.solved in
    let all : AllNamed ts (views_of_rows c.args.more.items) = subst (λ v. AllNamed ts (views_of_rows v)) c.deref.ensures.value c.in_ok-terms.ensures.all in
    let are : c.in_ok-constraints.constraints.items ≡ named_constraints false ts (views_of_rows c.args.more.items)
    = c.in_ok-constraints.ensures.value ∙ ap (λ v. named_constraints false v (views_of_rows c.deref-3.result.now)) c.deref-2.ensures.value ∙ ap (λ v. named_constraints false ts (views_of_rows v)) c.deref-3.ensures.value in
    let room : length ts < columns_of s = omega (arith, c.if-width-len.false, c.width.ensures, c.len.ensures ∙ c.in_ok-terms.terms.ok.0) in
    let joined = rows ++ c.args.more.items in
    let h = rw c.in-Absurd.is at c.in_ok-grown.ensures in
    let g = outcome_both rows c.args.more.items c.self.inside.terms.items ts s c.self.invariant.table c.in_ok-terms.ensures.continues all c.in_ok-constraints.constraints.items are (outcome.Absurd c.in-Absurd.weights) h in
    let w : AreWeightsFor (views_of_rows joined) c.in-Absurd.weights.items = record {
      terms = ts;
      once = c.in_ok-terms.ensures.once;
      named = named_both rows c.args.more.items c.self.inside.terms.items ts s c.self.invariant.table c.in_ok-terms.ensures.continues all;
      absurd = narrow_absurd (length ts + 1) (columns_of s) (named_constraints false ts (views_of_rows joined)) c.in-Absurd.weights.items (omega (arith, room)) g;
    } in
    subst (λ v. AreWeightsFor (views_of_rows v) c.deref-in-Absurd-2.result.now) (sym (append-nil c.deref-in-Absurd.result.now ∙ c.deref-in-Absurd.ensures.value ∙ c.in_ok-rows.ensures))
    (subst (AreWeightsFor (views_of_rows joined)) (sym c.deref-in-Absurd-2.ensures.value) w)

pub with_values-requires-clause-named : goal.with_values-requires-clause-named
with_values-requires-clause-named c =
    let rows = c.self.inside.rows.items in
    let ts = c.in_ok-terms.terms.items in
    let s = c.self.inside.solved in
    let all : AllNamed ts (views_of_rows c.args.more.items) = subst (λ v. AllNamed ts (views_of_rows v)) c.deref.ensures.value c.in_ok-terms.ensures.all in
    subst (λ v. AllNamed ts (views_of_rows v)) (sym c.in_ok-rows.ensures) (named_both rows c.args.more.items c.self.inside.terms.items ts s c.self.invariant.table c.in_ok-terms.ensures.continues all)

pub with_values-requires-clause-solved : goal.with_values-requires-clause-solved
with_values-requires-clause-solved c =
    let rows = c.self.inside.rows.items in
    let ts = c.in_ok-terms.terms.items in
    let s = c.self.inside.solved in
    let all : AllNamed ts (views_of_rows c.args.more.items) = subst (λ v. AllNamed ts (views_of_rows v)) c.deref.ensures.value c.in_ok-terms.ensures.all in
    let are : c.in_ok-constraints.constraints.items ≡ named_constraints false ts (views_of_rows c.args.more.items)
    = c.in_ok-constraints.ensures.value ∙ ap (λ v. named_constraints false v (views_of_rows c.deref-3.result.now)) c.deref-2.ensures.value ∙ ap (λ v. named_constraints false ts (views_of_rows v)) c.deref-3.ensures.value in
    let h = rw c.in-Holds.is at c.in_ok-grown.ensures in
    subst (λ v. IsSolved (columns_of c.in-Holds.grown) (named_constraints false ts (views_of_rows v)) c.in-Holds.grown) (sym c.in_ok-rows.ensures)
    (subst (λ v. IsSolved v (named_constraints false ts (views_of_rows (rows ++ c.args.more.items))) c.in-Holds.grown) (sym h.table.columns_many)
    (outcome_both rows c.args.more.items c.self.inside.terms.items ts s c.self.invariant.table c.in_ok-terms.ensures.continues all c.in_ok-constraints.constraints.items are (outcome.Holds c.in-Holds.grown) h))

pub returns-in-TooWide : goal.returns-in-TooWide
returns-in-TooWide c =
    let rows = c.self.inside.rows.items in
    let ts = c.in_ok-terms.terms.items in
    let s = c.self.inside.solved in
    let all : AllNamed ts (views_of_rows c.args.more.items) = subst (λ v. AllNamed ts (views_of_rows v)) c.deref.ensures.value c.in_ok-terms.ensures.all in
    let are : c.in_ok-constraints.constraints.items ≡ named_constraints false ts (views_of_rows c.args.more.items)
    = c.in_ok-constraints.ensures.value ∙ ap (λ v. named_constraints false v (views_of_rows c.deref-3.result.now)) c.deref-2.ensures.value ∙ ap (λ v. named_constraints false ts (views_of_rows v)) c.deref-3.ensures.value in
    let joined = rows ++ c.args.more.items in
    let h = rw c.in-TooWide.is at c.in_ok-grown.ensures in
    let w = wide_over ts (views_of_rows joined) (columns_of s) c.in_ok-terms.ensures.once (named_both rows c.args.more.items c.self.inside.terms.items ts s c.self.invariant.table c.in_ok-terms.ensures.continues all)
    (outcome_both rows c.args.more.items c.self.inside.terms.items ts s c.self.invariant.table c.in_ok-terms.ensures.continues all c.in_ok-constraints.constraints.items are outcome.TooWide h) in
    subst (λ v. IsWide (views_of_rows (v ++ c.args.more.items)) × (2 ^ 63 ≤ width (views_of_rows (v ++ c.args.more.items)))) c.self.view_is (w, wide_rows_width (views_of_rows joined) w)
