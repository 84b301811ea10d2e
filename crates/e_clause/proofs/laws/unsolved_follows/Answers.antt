use Rattle.e_clause.proofs.Following.{unsolved_follows}
use Rattle.e_clause.proofs.laws.unsolved_follows.Goals as goal

pub returns : goal.returns
returns c = unsolved_follows
