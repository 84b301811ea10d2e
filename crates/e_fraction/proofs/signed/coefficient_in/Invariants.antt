-- The term is not among the summands passed.
use Rattle.std.proofs.Common.{◌≡◌, false, take}
use Rattle.std.specs.List.{list_any}
use Rattle.e_literal.specs.Same.{term_eq}
use Rattle.e_fraction.proofs.signed.coefficient_in.Given as goal

abbrev pub invariant-loop-p : goal.invariant-loop-p
invariant-loop-p l = list_any (λ q. term_eq q.1 l.term) (take l.p-index l.summands) ≡ false
