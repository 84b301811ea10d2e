-- Each call has one summand less.
use Rattle.std.proofs.Common.{length}
use Rattle.e_fraction.proofs.signed.+are_distinct.Given as goal

abbrev pub decreases-are_distinct : goal.decreases-are_distinct
decreases-are_distinct l = length l.summands.now
