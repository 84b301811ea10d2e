use Rattle.std.proofs.lemmas.Result.{IfOk-weaker}
use Rattle.e_simplex.proofs.outcomes.Solving.{begun_here, fit_here, outcome_of}
use Rattle.e_simplex.proofs.solved.solve_constraints.Goals as goal

pub outcome-requires-clause-fit : goal.outcome-requires-clause-fit
outcome-requires-clause-fit c = fit_here _ _ c.in_ok-table.table c.in_ok-table.ensures c.requires

pub outcome-requires-clause-begun : goal.outcome-requires-clause-begun
outcome-requires-clause-begun c = begun_here _ _ c.in_ok-table.table c.in_ok-table.ensures

pub returns : goal.returns
returns c = IfOk-weaker c.outcome.result _ _ (λ o h. outcome_of _ _ c.in_ok-table.table o c.in_ok-table.ensures h) c.outcome.ensures
