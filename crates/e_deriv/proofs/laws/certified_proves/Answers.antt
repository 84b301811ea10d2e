use Rattle.e_deriv.proofs.Agreement.{proof_of_certified}
use Rattle.e_deriv.proofs.laws.certified_proves.Goals as goal

pub returns : goal.returns
returns c = proof_of_certified
