use Rattle.std.proofs.Common.{◌++◌, ◌∙◌, subst, IfOk}
use Rattle.e_fraction.specs.Views.{views_of_rows}
use Rattle.e_simplex.specs.Answer.{IsVerdict}
use Rattle.e_simplex.proofs.verdicts.Refuting.{each_law_holds, each_law_absurd}
use Rattle.e_simplex.proofs.solved_rows.SolvedRows.decide_with.Goals as goal

pub returns-clause-verdict : goal.returns-clause-verdict
returns-clause-verdict c = subst (λ v. IfOk c.decided_with.result (IsVerdict (views_of_rows (v ++ c.args.more.now)))) (c.deref.ensures.value ∙ c.self.view_is) c.decided_with.ensures

pub returns-clause-holds : goal.returns-clause-holds
returns-clause-holds c = each_law_holds (views_of_rows (c.args.self.now ++ c.args.more.now)) c.decided_with.result (returns-clause-verdict c)

pub returns-clause-absurd : goal.returns-clause-absurd
returns-clause-absurd c = each_law_absurd (views_of_rows (c.args.self.now ++ c.args.more.now)) c.decided_with.result (returns-clause-verdict c)
