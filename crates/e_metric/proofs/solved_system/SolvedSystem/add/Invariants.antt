use Rattle.std.proofs.Common.{◌≡◌, ◌++◌}
use Rattle.e_metric.proofs.solved_system.SolvedSystem.add.Given as goal

abbrev pub invariant-loop-name : goal.invariant-loop-name
invariant-loop-name l = record {
  names_are : l.self.names.items ≡ l.initial.self.names.items ++ l.yielded;
  terms_are : l.self.terms.items ≡ l.initial.self.terms.items;
  solved_rows_are : l.self.solved_rows ≡ l.initial.self.solved_rows;
}
