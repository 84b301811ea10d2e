use Rattle.e_clause.proofs.Following.{metric_fact}
use Rattle.e_clause.proofs.laws.metric_fact_follows.Goals as goal

pub returns : goal.returns
returns c = metric_fact
