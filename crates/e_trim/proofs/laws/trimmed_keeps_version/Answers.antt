use Rattle.e_trim.proofs.kept_scripts.VersionStays.{trimmed_keeps_version}
use Rattle.e_trim.proofs.laws.trimmed_keeps_version.Goals as goal

pub returns : goal.returns
returns c = trimmed_keeps_version
