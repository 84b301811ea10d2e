use Rattle.std.proofs.Common.{drop}
use Rattle.e_literal.specs.Solution.{Satisfy}
use Rattle.e_fraction.specs.Views.{views_of_rows}
use Rattle.e_simplex.specs.Answer.{assigned_value}
use Rattle.e_metric.proofs.evaluating.are_so.Given as goal

-- where the rows that are left are so, all are
abbrev pub invariant-loop-row : goal.invariant-loop-row
invariant-loop-row l = Satisfy (assigned_value l.values) (views_of_rows (drop l.row-index l.rows)) → Satisfy (assigned_value l.values) (views_of_rows l.rows)
