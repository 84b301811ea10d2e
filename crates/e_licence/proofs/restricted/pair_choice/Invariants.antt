use Rattle.std.proofs.Common.{◌≡◌, length}
use Rattle.e_licence.specs.inner.Rows.{IsPair}
use Rattle.e_licence.proofs.restricted.pair_choice.Given as goal

abbrev pub invariant-loop-at : goal.invariant-loop-at
invariant-loop-at l = IsPair l.spans l.pair.first l.pair.value l.pair.last l.pair.num l.choice.items × (length l.choice.items ≡ l.at)
