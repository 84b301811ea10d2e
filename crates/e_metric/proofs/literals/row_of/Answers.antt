use Rattle.e_metric.proofs.rows.Forms.{left_of_eq, right_of_eq, left_of_lt, right_of_lt}
use Rattle.e_metric.proofs.literals.row_of.Goals as goal

pub difference-requires-clause-left : goal.difference-requires-clause-left
difference-requires-clause-left c = left_of_eq c.args.atom.now c.in-MagEq.x c.in-MagEq.y c.items.result.now c.requires c.in-MagEq.is c.items.ensures

pub difference-requires-clause-right : goal.difference-requires-clause-right
difference-requires-clause-right c = right_of_eq c.args.atom.now c.in-MagEq.x c.in-MagEq.y c.items-in-MagEq.result.now c.requires c.in-MagEq.is c.items-in-MagEq.ensures

pub difference-requires-then-neg-2-clause-left : goal.difference-requires-then-neg-2-clause-left
difference-requires-then-neg-2-clause-left c = left_of_lt c.args.atom.now c.in-MagLt.x c.in-MagLt.y c.items-then-neg-2.result.now c.requires c.in-MagLt.is c.items-then-neg-2.ensures

pub difference-requires-then-neg-2-clause-right : goal.difference-requires-then-neg-2-clause-right
difference-requires-then-neg-2-clause-right c = right_of_lt c.args.atom.now c.in-MagLt.x c.in-MagLt.y c.items-then-neg-2-2.result.now c.requires c.in-MagLt.is c.items-then-neg-2-2.ensures

pub difference-requires-else-neg-2-clause-left : goal.difference-requires-else-neg-2-clause-left
difference-requires-else-neg-2-clause-left c = right_of_lt c.args.atom.now c.in-MagLt.x c.in-MagLt.y c.items-else-neg-2.result.now c.requires c.in-MagLt.is c.items-else-neg-2.ensures

pub difference-requires-else-neg-2-clause-right : goal.difference-requires-else-neg-2-clause-right
difference-requires-else-neg-2-clause-right c = left_of_lt c.args.atom.now c.in-MagLt.x c.in-MagLt.y c.items-else-neg-2-2.result.now c.requires c.in-MagLt.is c.items-else-neg-2-2.ensures
