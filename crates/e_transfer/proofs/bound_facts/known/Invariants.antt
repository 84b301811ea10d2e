use Rattle.std.proofs.Common.{◌≡◌, drop}
use Rattle.e_transfer.specs.inner.BoundFacts.{known_of}
use Rattle.e_transfer.proofs.bound_facts.known.Given as goal

abbrev pub invariant-loop-equation : goal.invariant-loop-equation
invariant-loop-equation l = known_of (drop l.equation-index l.equations) l.variable ≡ known_of l.equations l.variable
