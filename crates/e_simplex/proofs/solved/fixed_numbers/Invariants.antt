use Rattle.std.proofs.Common.{◌+◌}
use Rattle.e_simplex.specs.Constraints.{FixedTo}
use Rattle.e_simplex.proofs.solved.fixed_numbers.Given as goal

abbrev pub invariant-loop-column : goal.invariant-loop-column
invariant-loop-column l = FixedTo l._column l.constraints l.w l.fixed.items

abbrev pub invariant-loop-constraint : goal.invariant-loop-constraint
invariant-loop-constraint l = FixedTo (l.w + l.constraint-index) l.constraints l.w l.fixed.items
