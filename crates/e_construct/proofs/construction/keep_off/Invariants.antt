use Rattle.std.proofs.Common.{◌≡◌, ◌++◌, map, drop}
use Rattle.e_construct.specs.Construct.{avoidance}
use Rattle.e_construct.proofs.construction.keep_off.Given as goal

abbrev pub invariant-loop-other : goal.invariant-loop-other
invariant-loop-other l =
    l.lits.items ++ map (avoidance l.point) (drop l.other-index l.avoid) ≡ l.initial.lits.items ++ map (avoidance l.point) l.avoid
