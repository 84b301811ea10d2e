use Rattle.std.proofs.Common.{◌≡◌, ◌+◌, ◌*◌, ◌≤◌, drop, map}
use Rattle.e_literal.specs.Rename.{mono_at}
use Rattle.e_literal.specs.Truth.{value_of}
use Rattle.e_literal.specs.Solution.{values_for_all}
use Rattle.e_clause.specs.Instance.{number}
use Rattle.e_transfer.specs.SumMarks.{mark_of_term}
use Rattle.e_transfer.specs.inner.PartsOfChoices.{arguments_by}
use Rattle.e_transfer.proofs.numbers.Numbers.total.Given as goal

abbrev pub invariant-loop-mono : goal.invariant-loop-mono
invariant-loop-mono l = record {
  bound : l.total ≤ 4611686018427387904 * l.mono-index;
  value : l.total + value_of (values_for_all mark_of_term) (map (mono_at (number (arguments_by l.self))) (drop l.mono-index l.sum)) ≡ value_of (values_for_all mark_of_term) (map (mono_at (number (arguments_by l.self))) l.sum);
}
