use Rattle.e_figure.proofs.Placing.{not_in_figure}
use Rattle.e_figure.proofs.witness.instance_in.Goals as goal

pub returns-then-not-are_in_scope-clause-err : goal.returns-then-not-are_in_scope-clause-err
returns-then-not-are_in_scope-clause-err c =
    not_in_figure c.scope-scope.result c.args.figure.now c.args.rule c.args.args.now c.are_in_scope.result c.scope-scope.ensures c.are_in_scope.ensures c.if-not-are_in_scope.true
