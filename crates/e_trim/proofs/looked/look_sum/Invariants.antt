use Rattle.std.proofs.Common.{◌≡◌, drop}
use Rattle.std.specs.Option.{option_copied}
use Rattle.e_trim.specs.Looked.{both, of_sum}
use Rattle.e_trim.proofs.looked.look_sum.Given as goal

abbrev pub invariant-loop-name : goal.invariant-loop-name
invariant-loop-name l =
    both l.out (of_sum l.facts (option_copied l.wanted) (drop l.name-index l.sum)) ≡ both l.initial.out (of_sum l.facts (option_copied l.wanted) l.sum)
