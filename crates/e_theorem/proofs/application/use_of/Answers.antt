use Rattle.std.proofs.Common.{rules}
use Rattle.e_theorem.specs.Statements.{as_view}
use Rattle.e_theorem.proofs.Imaging.{at_images}
use Rattle.e_theorem.proofs.application.use_of.Goals as goal

pub returns-clause-needs : goal.returns-clause-needs
returns-clause-needs c =
    at_images _ c.in_ok-images.images c.items-2.result.now (as_view c.args.statement.now) c.args.args.now c.args.scope c.args.statement.now.given
    (search rules) (search rules) (search rules)

pub returns-clause-gives : goal.returns-clause-gives
returns-clause-gives c =
    at_images _ c.in_ok-images.images c.items-3.result.now (as_view c.args.statement.now) c.args.args.now c.args.scope c.args.statement.now.shown
    (search rules) (search rules) (search rules)
