use Rattle.std.proofs.Common.{◌++◌, [], IfOk, ◌≡◌, ◌+◌, ◌<◌, ◌^◌, arith, ap, sym, ◌∙◌, subst, length, false, rules}
use Rattle.std.proofs.lemmas.List.{append-nil}
use Rattle.e_fraction.specs.Views.{views_of_rows}
use Rattle.e_simplex.specs.Answer.{IsVerdict}
use Rattle.e_simplex.specs.Naming.{named_constraints}
use Rattle.e_simplex.specs.Constraints.{AllSmallConstraints}
use Rattle.e_simplex.specs.Solved.{IsFit, IsTableOutcome}
use Rattle.e_simplex.proofs.columns.NamedConstraints.{fit_constraints}
use Rattle.e_simplex.proofs.verdicts.Refuting.{length_seen, each_law_holds, each_law_absurd}
use Rattle.e_simplex.proofs.decision.decide.Goals as goal

pub solve_constraints-requires : goal.solve_constraints-requires
solve_constraints-requires c =
    let ts = c.in_ok-terms.terms.items in
    let n : length c.in_ok-terms.terms.items < 2 ^ 63 = search rules in
    let l : c.in_ok-constraints.constraints.items ≡ named_constraints false ts (views_of_rows c.args.rows.now)
    = c.in_ok-constraints.ensures.value ∙ ap (λ v. named_constraints false v (views_of_rows c.args.rows.now)) c.deref.ensures.value in
    let k : c.len.result ≡ length ts = c.len.ensures ∙ c.in_ok-terms.terms.ok.0 in
    subst (λ v. IsFit (v + 1) c.in_ok-constraints.constraints.items) (sym k)
    (subst (IsFit (length ts + 1)) (sym l)
    (fit_constraints ts (views_of_rows c.args.rows.now) (length ts + 1) (omega arith) (omega (arith, n)) (omega (arith, length_seen c.args.rows.now, c.requires.few)) c.in_ok-terms.ensures.all
    (subst AllSmallConstraints l c.in_ok-constraints.ensures.small)))

pub verdict_of-verdict-requires-clause-outcome : goal.verdict_of-verdict-requires-clause-outcome
verdict_of-verdict-requires-clause-outcome c =
    let ts = c.in_ok-terms.terms.items in
    let n : length c.in_ok-terms.terms.items < 2 ^ 63 = search rules in
    let l : c.in_ok-constraints.constraints.items ≡ named_constraints false c.deref-2.result.now (views_of_rows (c.args.rows.now ++ []))
    = c.in_ok-constraints.ensures.value ∙ ap (λ v. named_constraints false v (views_of_rows c.args.rows.now)) (c.deref.ensures.value ∙ sym c.deref-2.ensures.value)
    ∙ ap (λ v. named_constraints false c.deref-2.result.now (views_of_rows v)) (sym (append-nil c.args.rows.now)) in
    let k : c.len.result ≡ length ts = c.len.ensures ∙ c.in_ok-terms.terms.ok.0 in (
      c.len.result + 1,
      omega (arith, k, ap length c.deref-2.ensures.value),
      omega (arith, k, n),
      subst (λ v. IsTableOutcome (c.len.result + 1) v c.in_ok-outcome.outcome) l c.in_ok-outcome.ensures,
    )

pub returns-clause-holds : goal.returns-clause-holds
returns-clause-holds c =
    each_law_holds (views_of_rows c.args.rows.now) c.verdict_of-verdict.result
    (subst (λ v. IfOk c.verdict_of-verdict.result (IsVerdict (views_of_rows v))) (append-nil c.args.rows.now) c.verdict_of-verdict.ensures)

pub returns-clause-absurd : goal.returns-clause-absurd
returns-clause-absurd c =
    each_law_absurd (views_of_rows c.args.rows.now) c.verdict_of-verdict.result
    (subst (λ v. IfOk c.verdict_of-verdict.result (IsVerdict (views_of_rows v))) (append-nil c.args.rows.now) c.verdict_of-verdict.ensures)
