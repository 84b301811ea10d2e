use Rattle.e_prove.proofs.RightStops.{no_refusal_of_licensed}
use Rattle.e_prove.proofs.laws.licensed_is_not_refused.Goals as goal

pub returns : goal.returns
returns c = no_refusal_of_licensed
