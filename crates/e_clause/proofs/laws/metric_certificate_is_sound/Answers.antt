use Rattle.e_clause.proofs.Following.{metric_certificate}
use Rattle.e_clause.proofs.laws.metric_certificate_is_sound.Goals as goal

pub returns : goal.returns
returns c = metric_certificate
