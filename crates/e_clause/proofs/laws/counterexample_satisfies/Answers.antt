use Rattle.e_clause.proofs.Following.{counterexample_satisfies}
use Rattle.e_clause.proofs.laws.counterexample_satisfies.Goals as goal

pub returns : goal.returns
returns c = counterexample_satisfies
