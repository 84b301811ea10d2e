use Rattle.e_drawing.proofs.Citing.{refuted_is_not_shown}
use Rattle.e_drawing.proofs.laws.refuted_is_not_shown.Goals as goal

pub returns : goal.returns
returns c = refuted_is_not_shown
