use Rattle.e_roundtrip.proofs.Formed.FilledSpelling.{filled_has_spelling}
use Rattle.e_roundtrip.proofs.laws.filled_has_spelling.Goals as goal

pub returns : goal.returns
returns c = filled_has_spelling
