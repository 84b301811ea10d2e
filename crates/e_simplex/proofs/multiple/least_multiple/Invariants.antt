use Rattle.std.proofs.Common.{ℕ, ◌<◌}
use Rattle.e_simplex.specs.inner.Multiple.{IsBad}
use Rattle.e_simplex.proofs.multiple.least_multiple.Given as goal

abbrev pub invariant-loop-t : goal.invariant-loop-t
invariant-loop-t l = (s : ℕ) → 0 < s → s < l.t → (j : ℕ) × IsBad l.first l.second l.k s j
