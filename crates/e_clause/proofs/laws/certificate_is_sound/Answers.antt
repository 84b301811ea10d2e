use Rattle.e_clause.proofs.Sound.{allowed_of_certified}
use Rattle.e_clause.proofs.laws.certificate_is_sound.Goals as goal

pub returns : goal.returns
returns c = allowed_of_certified
