use Rattle.e_clause.proofs.Carried.{solutions_refute}
use Rattle.e_clause.proofs.laws.solutions_refute.Goals as goal

pub returns : goal.returns
returns c = solutions_refute
