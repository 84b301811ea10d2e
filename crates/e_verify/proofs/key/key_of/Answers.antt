use Rattle.std.proofs.Common.{rules}
use Rattle.e_verify.proofs.arithmetic.TermKeys.{narrow_two, narrow_angle, narrow_area}
use Rattle.e_verify.proofs.key.key_of.Goals as goal

pub returns-in-Seg-clause-narrow : goal.returns-in-Seg-clause-narrow
returns-in-Seg-clause-narrow c =
    let s = c.in-Seg in narrow_two c.args.term s.a s.b s.is (search rules) (search rules)

pub returns-in-Ang-clause-narrow : goal.returns-in-Ang-clause-narrow
returns-in-Ang-clause-narrow c =
    let s = c.in-Ang in narrow_angle c.args.term s.a s.b s.c s.is (search rules) (search rules) (search rules)

pub returns-in-Area-clause-narrow : goal.returns-in-Area-clause-narrow
returns-in-Area-clause-narrow c =
    let s = c.in-Area in narrow_area c.args.term s.a s.b s.c s.is (search rules) (search rules) (search rules)
