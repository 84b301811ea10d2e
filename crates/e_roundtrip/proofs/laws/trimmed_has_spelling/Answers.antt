use Rattle.e_roundtrip.proofs.Trimmed.TrimmedSpelling.{trimmed_has_spelling}
use Rattle.e_roundtrip.proofs.laws.trimmed_has_spelling.Goals as goal

pub returns : goal.returns
returns c = trimmed_has_spelling
