use Rattle.std.proofs.Common.{rules}
use Rattle.e_theorem.specs.Statements.{as_view}
use Rattle.e_theorem.proofs.Imaging.{one_sort, imaged_by}
use Rattle.e_theorem.proofs.application.images.Goals as goal

pub of_pairs-requires : goal.of_pairs-requires
of_pairs-requires c =
    record { one_sort = one_sort c.deref-2.result.now c.deref-3.result.now (as_view c.args.statement.now) c.args.args.now c.args.scope (search rules) (search rules) c.requires.fit }

pub returns : goal.returns
returns c = imaged_by c.in_ok-images.images c.deref-2.result.now c.deref-3.result.now (as_view c.args.statement.now) c.args.args.now c.args.scope (search rules) (search rules) (search rules) c.requires.fit
