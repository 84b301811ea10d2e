use Rattle.std.proofs.Common.{◌≡◌, ◌++◌, ◌+◌, length}
use Rattle.e_simplex.specs.Constraints.{FixedTo}
use Rattle.e_simplex.specs.Solved.{columns_of, constraints_of}
use Rattle.e_simplex.proofs.table.Table.grown.Given as goal

abbrev pub invariant-loop-constraint : goal.invariant-loop-constraint
invariant-loop-constraint l = record {
  constraints : l.table.constraints.items ≡ constraints_of l.fn.self ++ l.yielded;
  fixed : FixedTo (columns_of l.fn.self + length (constraints_of l.fn.self ++ l.yielded)) (constraints_of l.fn.self ++ l.yielded) (columns_of l.fn.self) l.table.fixed.items;
  basis : l.table.basis.items ≡ l.fn.self.basis.items;
  columns : l.table.columns.items ≡ l.fn.self.columns.items;
  entries : l.table.entries.items ≡ l.fn.self.entries.items;
  det : l.table.det ≡ l.fn.self.det;
}
