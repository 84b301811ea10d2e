use Rattle.e_roundtrip.proofs.Formed.CertifiedFormed.{certified_formed}
use Rattle.e_roundtrip.proofs.laws.certified_is_formed.Goals as goal

pub returns : goal.returns
returns c = certified_formed
