use Rattle.e_commands.proofs.outcomes.Completeness.{stops_so}
use Rattle.e_commands.proofs.laws.refusal_is_outcome.Goals as goal

pub returns : goal.returns
returns c =
    λ lines theorems known rest title step wanted values names b r.
    record { known = known; rest = rest; begins = b; ends = stops_so lines known rest title step wanted values names r }
