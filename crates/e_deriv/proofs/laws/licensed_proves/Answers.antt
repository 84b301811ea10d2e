use Rattle.e_deriv.proofs.Agreement.{proof_of_licensed}
use Rattle.e_deriv.proofs.laws.licensed_proves.Goals as goal

pub returns : goal.returns
returns c = proof_of_licensed
