use Rattle.std.proofs.Common.{rules}
use Rattle.e_theorem.proofs.Imaging.{few_points, few_lines, few_circles}
use Rattle.e_licence.proofs.limits.is_statement.Goals as goal

pub with_sorts-all-requires-clause-points : goal.with_sorts-all-requires-clause-points
with_sorts-all-requires-clause-points c =
    few_points c.with_sorts-declared.result c.items.result.now c.items-2.result.now c.args.statement.now.declared c.args.statement.now.made c.with_sorts-declared.ensures (search rules) (search rules) c.requires

pub with_sorts-all-requires-clause-lines : goal.with_sorts-all-requires-clause-lines
with_sorts-all-requires-clause-lines c =
    few_lines c.with_sorts-declared.result c.items.result.now c.items-2.result.now c.args.statement.now.declared c.args.statement.now.made c.with_sorts-declared.ensures (search rules) (search rules) c.requires

pub with_sorts-all-requires-clause-circles : goal.with_sorts-all-requires-clause-circles
with_sorts-all-requires-clause-circles c =
    few_circles c.with_sorts-declared.result c.items.result.now c.items-2.result.now c.args.statement.now.declared c.args.statement.now.made c.with_sorts-declared.ensures (search rules) (search rules) c.requires
