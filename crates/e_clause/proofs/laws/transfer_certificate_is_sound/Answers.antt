use Rattle.e_clause.proofs.Following.{transfer_certificate}
use Rattle.e_clause.proofs.laws.transfer_certificate_is_sound.Goals as goal

pub returns : goal.returns
returns c = transfer_certificate
