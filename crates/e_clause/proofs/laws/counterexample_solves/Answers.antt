use Rattle.e_clause.proofs.Following.{counterexample_solves}
use Rattle.e_clause.proofs.laws.counterexample_solves.Goals as goal

pub returns : goal.returns
returns c = counterexample_solves
