use Rattle.std.proofs.Common.{◌≡◌, ◌++◌, map, drop}
use Rattle.e_construct.specs.Superposing.{equal}
use Rattle.e_construct.proofs.superpose.extend.Given as goal

abbrev pub invariant-loop-pair : goal.invariant-loop-pair
invariant-loop-pair l =
    l.lits.items ++ map (λ x. equal x.0 x.1) (drop l.pair-index l.equals) ≡ l.initial.lits.items ++ map (λ x. equal x.0 x.1) l.equals
