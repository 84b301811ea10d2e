use Rattle.std.proofs.Common.{◌≡◌, ◌++◌, drop}
use Rattle.e_metric.specs.inner.Certificate.{named_multipliers, renamed_at}
use Rattle.e_metric.proofs.certificates.rows_not_zero.Given as goal

abbrev pub invariant-loop-i : goal.invariant-loop-i
invariant-loop-i l = l.sum.items ++ named_multipliers (drop l.i (renamed_at l.names l.renamed)) (drop l.i l.multipliers) ≡ named_multipliers (renamed_at l.names l.renamed) l.multipliers
