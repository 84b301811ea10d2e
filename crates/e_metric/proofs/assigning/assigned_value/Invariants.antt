use Rattle.std.proofs.Common.{◌≡◌, drop}
use Rattle.e_simplex.specs.Answer.{assigned_value}
use Rattle.e_metric.proofs.assigning.assigned_value.Given as goal

abbrev pub invariant-loop-pair : goal.invariant-loop-pair
invariant-loop-pair l = assigned_value (drop l.pair-index l.pairs) l.term ≡ assigned_value l.pairs l.term
