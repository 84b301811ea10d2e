use Rattle.std.proofs.Common.{rules}
use Rattle.e_licence.proofs.KeptVerdicts.{none_kept}
use Rattle.e_licence.proofs.verdicts.Verdicts.new.Goals as goal

pub returns : goal.returns
returns c b = none_kept b (record { allowed = c.new.result; refused = c.new-2.result }) (search rules) (search rules)
