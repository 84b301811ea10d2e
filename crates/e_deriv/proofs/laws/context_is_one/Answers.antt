use Rattle.e_deriv.proofs.Stops.{one_context}
use Rattle.e_deriv.proofs.laws.context_is_one.Goals as goal

pub returns : goal.returns
returns c = one_context
