use Rattle.e_deriv.proofs.Stops.{no_stop_of_licensed}
use Rattle.e_deriv.proofs.laws.licensed_has_no_stop.Goals as goal

pub returns : goal.returns
returns c = no_stop_of_licensed
