use Rattle.std.proofs.Common.{◌≡◌, ◌++◌, drop}
use Rattle.e_simplex.proofs.solved.add_copies.Given as goal

abbrev pub invariant-loop-constraint : goal.invariant-loop-constraint
invariant-loop-constraint l =
    l.all.items ++ drop l.constraint-index l.constraints ≡ l.initial.all.items ++ l.constraints
