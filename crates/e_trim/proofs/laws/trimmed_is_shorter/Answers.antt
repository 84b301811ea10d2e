use Rattle.e_trim.proofs.kept_scripts.Shorter.{trimmed_shorter}
use Rattle.e_trim.proofs.laws.trimmed_is_shorter.Goals as goal

pub returns : goal.returns
returns c = trimmed_shorter
