use Rattle.std.proofs.Common.{ℕ, ◌<◌, get_or, pos}
use Rattle.e_simplex.specs.Least.{CannotEnter, fixed_at}
use Rattle.e_simplex.proofs.table.Table.bars.Given as goal

abbrev pub invariant-loop-q : goal.invariant-loop-q
invariant-loop-q l = (k : ℕ) → k < l.q → CannotEnter (get_or l.row 0 (pos 0)) (get_or l.row k (pos 0)) (fixed_at l.self.fixed.items (get_or l.self.columns.items k 0))
