use Rattle.std.proofs.Common.{◌≡◌, ◌++◌, take}
use Rattle.e_fraction.specs.Views.{views_of_rows}
use Rattle.e_simplex.specs.Naming.{named_constraints}
use Rattle.e_simplex.specs.Constraints.{AllSmallConstraints}
use Rattle.e_simplex.proofs.naming.add_constraints_where.Given as goal

abbrev pub invariant-loop-row : goal.invariant-loop-row
invariant-loop-row l = record {
  value : l.constraints.items ≡ l.initial.constraints.items ++ named_constraints l.not l.terms (views_of_rows (take l.row-index l.rows));
  small : AllSmallConstraints l.initial.constraints.items → AllSmallConstraints l.constraints.items;
}
