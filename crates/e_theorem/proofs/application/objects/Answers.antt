use Rattle.std.proofs.Common.{rules}
use Rattle.e_theorem.proofs.Imaging.{few_points, few_lines, few_circles}
use Rattle.e_theorem.proofs.application.objects.Goals as goal

pub next_objects-requires-2-clause-points : goal.next_objects-requires-2-clause-points
next_objects-requires-2-clause-points c =
    few_points c.with_sorts.result c.items-declared.result.now c.items.result.now c.args.statement.now.declared c.args.statement.now.made c.with_sorts.ensures (search rules) (search rules) c.requires.few

pub next_objects-requires-2-clause-lines : goal.next_objects-requires-2-clause-lines
next_objects-requires-2-clause-lines c =
    few_lines c.with_sorts.result c.items-declared.result.now c.items.result.now c.args.statement.now.declared c.args.statement.now.made c.with_sorts.ensures (search rules) (search rules) c.requires.few

pub next_objects-requires-2-clause-circles : goal.next_objects-requires-2-clause-circles
next_objects-requires-2-clause-circles c =
    few_circles c.with_sorts.result c.items-declared.result.now c.items.result.now c.args.statement.now.declared c.args.statement.now.made c.with_sorts.ensures (search rules) (search rules) c.requires.few
