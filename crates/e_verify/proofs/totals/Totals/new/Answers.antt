use Rattle.e_verify.proofs.arithmetic.KeyedTotals.{no_entries}
use Rattle.e_verify.proofs.totals.Totals.new.Goals as goal

pub invariant_of-result : goal.invariant_of-result
invariant_of-result c = no_entries c.new.result.items c.new.ensures.items
