use Rattle.e_metric.specs.Fronts.{AreFronts}
use Rattle.judging_tests.proofs.following.answered_after.Given as goal

abbrev pub invariant-loop-fact : goal.invariant-loop-fact
invariant-loop-fact g l = AreFronts l.some l.known
