use Rattle.e_deriv.proofs.Stops.{one_stop}
use Rattle.e_deriv.proofs.laws.stop_is_one.Goals as goal

pub returns : goal.returns
returns c = one_stop
