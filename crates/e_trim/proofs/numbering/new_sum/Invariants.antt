use Rattle.std.proofs.Common.{◌≡◌, ◌++◌, drop}
use Rattle.e_trim.specs.Trimmed.{sum_at}
use Rattle.e_trim.proofs.numbering.new_sum.Given as goal

abbrev pub invariant-loop-multiplier : goal.invariant-loop-multiplier
invariant-loop-multiplier l = l.rows.items ++ sum_at l.kept (drop l.multiplier-index l.sum) ≡ sum_at l.kept l.sum
