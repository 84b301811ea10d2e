use Rattle.e_prove.proofs.RightStops.{refused_there}
use Rattle.e_prove.proofs.laws.refused_stops_there.Goals as goal

pub returns : goal.returns
returns c = refused_there
