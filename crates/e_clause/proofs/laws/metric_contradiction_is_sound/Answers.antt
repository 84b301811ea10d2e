use Rattle.e_clause.proofs.Following.{metric_contradiction}
use Rattle.e_clause.proofs.laws.metric_contradiction_is_sound.Goals as goal

pub returns : goal.returns
returns c = metric_contradiction
