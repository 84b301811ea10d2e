use Rattle.e_metric.proofs.terms.TermOrder.{in_order, same_terms}
use Rattle.e_metric.proofs.assigning.put_in_order.Goals as goal

pub returns-clause-in_order : goal.returns-clause-in_order
returns-clause-in_order c = in_order _ _ c.sort_unstable.ensures.sorted c.dedup.ensures.filtered

pub returns-clause-same : goal.returns-clause-same
returns-clause-same c = same_terms _ _ _ c.sort_unstable.ensures.permutation c.dedup.ensures.filtered
