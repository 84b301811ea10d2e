use Rattle.std.proofs.Common.{◌≡◌, ◌++◌, take, map}
use Rattle.e_clause.specs.Views.{lit_of_pattern, row_of}
use Rattle.e_transfer.specs.inner.PartsOfChoices.{atom_last}
use Rattle.e_transfer.proofs.plan.add_ready_at.Given as goal

abbrev pub invariant-loop-p : goal.invariant-loop-p
invariant-loop-p l =
    l.ready_at.items ≡ l.initial.ready_at.items ++ map (λ m. atom_last (row_of l.row) l.positions m.atom) (map lit_of_pattern (take l.p-index l.patterns))
