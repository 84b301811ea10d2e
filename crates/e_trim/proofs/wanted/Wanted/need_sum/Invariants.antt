use Rattle.std.proofs.Common.{◌≡◌, drop}
use Rattle.e_literal.specs.Literal.{objects_of_sum}
use Rattle.e_trim.specs.Looked.{both, wanted_objects}
use Rattle.e_trim.proofs.wanted.Wanted.need_sum.Given as goal

abbrev pub invariant-loop-m : goal.invariant-loop-m
invariant-loop-m l =
    both l.self (wanted_objects (objects_of_sum (drop l.m-index l.sum))) ≡ both l.initial.self (wanted_objects (objects_of_sum l.sum))
