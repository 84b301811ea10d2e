use Rattle.e_prove.proofs.RightStops.{memory_of_derived}
use Rattle.e_prove.proofs.laws.derived_stops_for_memory.Goals as goal

pub returns : goal.returns
returns c = memory_of_derived
