use Rattle.std.proofs.Common.{take, map}
use Rattle.e_transfer.specs.Areas.{ListsAlso}
use Rattle.e_transfer.proofs.areas.add_sum.Given as goal

abbrev pub invariant-loop-m : goal.invariant-loop-m
invariant-loop-m l = ListsAlso (map (λ m. m.term) (take l.m-index l.sum)) l.initial.areas.items l.areas.items
