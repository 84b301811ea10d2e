use Rattle.std.proofs.Common.{◌≡◌, take}
use Rattle.e_clause.specs.Views.{row_of}
use Rattle.e_transfer.specs.inner.PartsOfChoices.{arguments_from}
use Rattle.e_transfer.proofs.numbers.arguments.Given as goal

abbrev pub invariant-loop-v : goal.invariant-loop-v
invariant-loop-v l = l.args.items ≡ arguments_from (row_of l.row) l.part 0 (take l.v l.positions)
