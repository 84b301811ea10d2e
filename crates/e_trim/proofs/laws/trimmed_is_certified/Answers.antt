use Rattle.e_trim.proofs.kept_scripts.CertifiedDerivations.{trimmed_certified}
use Rattle.e_trim.proofs.laws.trimmed_is_certified.Goals as goal

pub returns : goal.returns
returns c = trimmed_certified
