use Rattle.std.proofs.Common.{◌≡◌, ◌++◌}
use Rattle.e_simplex.proofs.solved_rows.rows_and.Given as goal

abbrev pub invariant-loop-row : goal.invariant-loop-row
invariant-loop-row l = l.rows.items ≡ l.initial.rows.items ++ l.yielded
