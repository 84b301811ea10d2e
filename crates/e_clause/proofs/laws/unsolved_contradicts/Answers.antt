use Rattle.e_clause.proofs.Following.{unsolved_contradicts}
use Rattle.e_clause.proofs.laws.unsolved_contradicts.Goals as goal

pub returns : goal.returns
returns c = unsolved_contradicts
