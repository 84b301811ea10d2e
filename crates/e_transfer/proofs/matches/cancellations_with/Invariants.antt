use Rattle.std.proofs.Common.{◌≡◌, take}
use Rattle.e_transfer.specs.inner.Matches.{cancellations_of_sum}
use Rattle.e_transfer.proofs.matches.cancellations_with.Given as goal

abbrev pub invariant-loop-m : goal.invariant-loop-m
invariant-loop-m l = l.matches.items ≡ cancellations_of_sum l.term (take l.m-index l.sum)
