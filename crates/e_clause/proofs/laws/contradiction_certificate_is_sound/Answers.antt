use Rattle.e_clause.proofs.Sound.{contradictory_of_certified}
use Rattle.e_clause.proofs.laws.contradiction_certificate_is_sound.Goals as goal

pub returns : goal.returns
returns c = contradictory_of_certified
