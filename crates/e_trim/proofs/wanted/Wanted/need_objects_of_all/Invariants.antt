use Rattle.std.proofs.Common.{◌≡◌, drop}
use Rattle.e_trim.specs.Looked.{both, wanted_objects, objects_of_lits}
use Rattle.e_trim.proofs.wanted.Wanted.need_objects_of_all.Given as goal

abbrev pub invariant-loop-lit : goal.invariant-loop-lit
invariant-loop-lit l =
    both l.self (wanted_objects (objects_of_lits (drop l.lit-index l.lits))) ≡ both l.initial.self (wanted_objects (objects_of_lits l.lits))
