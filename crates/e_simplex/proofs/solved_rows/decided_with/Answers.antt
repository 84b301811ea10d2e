use Rattle.std.proofs.Common.{◌++◌, ◌≡◌, ◌<◌, ◌^◌, ap, arith, sym, ◌∙◌, subst, length, false, rules}
use Rattle.std.proofs.lemmas.List.{nil_from_length}
use Rattle.e_fraction.specs.Views.{views_of_rows}
use Rattle.e_simplex.specs.Constraints.{AllSmallConstraints}
use Rattle.e_simplex.specs.Naming.{AllNamed, named_constraints}
use Rattle.e_simplex.specs.Solved.{IsSolved, IsTableOutcome, columns_of}
use Rattle.e_simplex.proofs.joined_rows.Extending.{named_both, fit_both, outcome_both, solved_both}
use Rattle.e_simplex.proofs.solved_rows.decided_with.Goals as goal

pub plain_constraints-requires-clause-named : goal.plain_constraints-requires-clause-named
plain_constraints-requires-clause-named c = subst (λ v. AllNamed v (views_of_rows c.args.more.now)) (sym c.deref-2.ensures.value) c.in_ok-terms.ensures.all

pub with_all-requires-clause-fit : goal.with_all-requires-clause-fit
with_all-requires-clause-fit c =
    let ts = c.in_ok-terms.terms.items in
    let s = c.args.solved.now in
    let room : length ts < columns_of s = omega (arith, c.if-width-len.false, c.width.ensures, c.len.ensures ∙ c.in_ok-terms.terms.ok.0) in
    let n : length s.columns.items < 2 ^ 63 = search rules in
    let e : c.deref-3.result.now ≡ c.in_ok-constraints.constraints.items = c.deref-3.ensures.value in
    fit_both c.args.rows.now c.args.more.now c.args.terms.now ts s c.requires.table c.in_ok-terms.ensures.continues c.in_ok-terms.ensures.all
    c.deref-3.result.now (e ∙ c.in_ok-constraints.ensures.value ∙ ap (λ v. named_constraints false v (views_of_rows c.args.more.now)) c.deref-2.ensures.value)
    room (omega (arith, n)) c.requires.few (subst AllSmallConstraints (sym e) c.in_ok-constraints.ensures.small)

pub verdict_of-verdict-requires-clause-named : goal.verdict_of-verdict-requires-clause-named
verdict_of-verdict-requires-clause-named c =
    let ts = c.in_ok-terms.terms.items in
    subst (λ v. AllNamed v (views_of_rows (c.args.rows.now ++ c.args.more.now))) (sym c.deref-4.ensures.value)
    (named_both c.args.rows.now c.args.more.now c.args.terms.now ts c.args.solved.now c.requires.table c.in_ok-terms.ensures.continues c.in_ok-terms.ensures.all)

pub verdict_of-verdict-requires-clause-outcome : goal.verdict_of-verdict-requires-clause-outcome
verdict_of-verdict-requires-clause-outcome c =
    let ts = c.in_ok-terms.terms.items in
    let s = c.args.solved.now in
    let room : length ts < columns_of s = omega (arith, c.if-width-len.false, c.width.ensures, c.len.ensures ∙ c.in_ok-terms.terms.ok.0) in
    let n : length s.columns.items < 2 ^ 63 = search rules in (
      columns_of s,
      omega (arith, room, ap length c.deref-4.ensures.value),
      omega (arith, n),
      subst (λ v. IsTableOutcome (columns_of s) (named_constraints false v (views_of_rows (c.args.rows.now ++ c.args.more.now))) c.in-Ok.outcome) (sym c.deref-4.ensures.value)
          (outcome_both c.args.rows.now c.args.more.now c.args.terms.now ts s c.requires.table c.in_ok-terms.ensures.continues c.in_ok-terms.ensures.all
          c.deref-3.result.now (c.deref-3.ensures.value ∙ c.in_ok-constraints.ensures.value ∙ ap (λ v. named_constraints false v (views_of_rows c.args.more.now)) c.deref-2.ensures.value)
          c.in-Ok.outcome c.in-Ok.ensures),
    )

pub verdict_of_solved-requires-clause-named : goal.verdict_of_solved-requires-clause-named
verdict_of_solved-requires-clause-named c =
    let ts = c.in_ok-terms.terms.items in
    subst (λ v. AllNamed v (views_of_rows (c.args.rows.now ++ c.args.more.now))) (sym c.deref-then-is_empty.ensures.value)
    (named_both c.args.rows.now c.args.more.now c.args.terms.now ts c.args.solved.now c.requires.table c.in_ok-terms.ensures.continues c.in_ok-terms.ensures.all)

pub verdict_of_solved-requires-clause-room : goal.verdict_of_solved-requires-clause-room
verdict_of_solved-requires-clause-room c =
    omega (arith, c.if-width-len.false, c.width.ensures, c.len.ensures ∙ c.in_ok-terms.terms.ok.0, ap length c.deref-then-is_empty.ensures.value)

pub verdict_of_solved-requires-clause-counted : goal.verdict_of_solved-requires-clause-counted
verdict_of_solved-requires-clause-counted c =
    let n : length c.args.solved.now.columns.items < 2 ^ 63 = search rules in
    omega (arith, n)

pub verdict_of_solved-requires-clause-solved : goal.verdict_of_solved-requires-clause-solved
verdict_of_solved-requires-clause-solved c =
    let ts = c.in_ok-terms.terms.items in
    let s = c.args.solved.now in
    let none : length c.in_ok-constraints.constraints.items ≡ 0 = search rules in
    subst (λ v. IsSolved (columns_of s) (named_constraints false v (views_of_rows (c.args.rows.now ++ c.args.more.now))) s) (sym c.deref-then-is_empty.ensures.value)
    (solved_both c.args.rows.now c.args.more.now c.args.terms.now ts s c.requires.table c.in_ok-terms.ensures.continues c.in_ok-terms.ensures.all
    c.in_ok-constraints.constraints.items (c.in_ok-constraints.ensures.value ∙ ap (λ v. named_constraints false v (views_of_rows c.args.more.now)) c.deref-2.ensures.value)
    (nil_from_length c.in_ok-constraints.constraints.items none))
