use Rattle.std.proofs.Common.{length}
use Rattle.e_read.proofs.strict.+ends_with.Given as goal

abbrev pub decreases-ends_with : goal.decreases-ends_with
decreases-ends_with l = length l.sorts.now
