use Rattle.e_literal.proofs.Equality.{normals_decide, normals_tell}
use Rattle.e_literal.proofs.normals.Normal.is_equal.Goals as goal

pub returns-clause-decides : goal.returns-clause-decides
returns-clause-decides c = normals_decide c.args.self.now c.args.other.now _ c.eq.ensures

pub returns-clause-same : goal.returns-clause-same
returns-clause-same c = normals_tell c.args.self.now c.args.other.now _ c.eq.ensures
