use Rattle.std.proofs.Common.{◌≡◌, ℕ, ◌<◌, [], get_or, false}
use Rattle.e_line.specs.Reading.{texts}
use Rattle.e_line.specs.Literals.{is_relation}
use Rattle.e_line.proofs.literal.index_of_relation.Given as goal

abbrev pub invariant-loop-i : goal.invariant-loop-i
invariant-loop-i l = (k : ℕ) → k < l.i → is_relation (get_or (texts l.words) k []) ≡ false
