use Rattle.e_literal.proofs.NormalLiterals.{normals_are_same}
use Rattle.e_literal.proofs.normals.equal_normal_forms_are_same.Goals as goal

pub returns : goal.returns
returns c = normals_are_same
