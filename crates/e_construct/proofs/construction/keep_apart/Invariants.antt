use Rattle.std.proofs.Common.{◌≡◌, ◌++◌, map, drop}
use Rattle.e_construct.specs.Construct.{inequality, of_sort}
use Rattle.e_construct.proofs.construction.keep_apart.Given as goal

abbrev pub invariant-loop-other : goal.invariant-loop-other
invariant-loop-other l =
    l.lits.items ++ map (inequality l.object) (of_sort l.sort (drop l.other-index l.avoid))
    ≡ l.initial.lits.items ++ map (inequality l.object) (of_sort l.sort l.avoid)
