use Rattle.e_clause.proofs.Following.{counterexample_refutes}
use Rattle.e_clause.proofs.laws.counterexample_refutes.Goals as goal

pub returns : goal.returns
returns c = counterexample_refutes
