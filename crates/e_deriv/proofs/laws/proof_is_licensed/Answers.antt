use Rattle.e_deriv.proofs.Agreement.{licensed_of_proof}
use Rattle.e_deriv.proofs.laws.proof_is_licensed.Goals as goal

pub returns : goal.returns
returns c = licensed_of_proof
