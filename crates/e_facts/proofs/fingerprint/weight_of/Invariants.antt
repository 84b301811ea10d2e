use Rattle.std.proofs.Common.{◌≡◌, ◌+◌, ◌*◌, ◌≤◌, drop}
use Rattle.e_literal.specs.Truth.{value_of}
use Rattle.e_literal.specs.Solution.{values_for_all}
use Rattle.e_facts.specs.inner.Fingerprint.{term_number}
use Rattle.e_facts.proofs.fingerprint.weight_of.Given as goal

abbrev pub invariant-loop-mono : goal.invariant-loop-mono
invariant-loop-mono l = record {
  bound : l.total ≤ 4611686018427387904 * l.mono-index;
  value : l.total + value_of (values_for_all term_number) (drop l.mono-index l.sum) ≡ value_of (values_for_all term_number) l.sum;
}
