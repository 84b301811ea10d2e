use Rattle.e_commands.proofs.outcomes.Completeness.{widens_so}
use Rattle.e_commands.proofs.laws.too_wide_is_wide.Goals as goal

pub returns : goal.returns
returns c = widens_so
