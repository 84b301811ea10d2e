use Rattle.std.proofs.Common.{ap, ◌∙◌}
use Rattle.e_literal.specs.Scopes.{with_sorts}
use Rattle.e_prove.proofs.NextStates.{within_grown}
use Rattle.e_prove.proofs.Blocks.{on_ok}
use Rattle.e_prove.proofs.state_before.StateBefore.grow.Goals as goal

pub widen-requires : goal.widen-requires
widen-requires c =
    let sorts = c.args.sorts.now in
    within_grown c.args.self.now.context.scope c.with_sorts-scope.result sorts (c.with_sorts-scope.ensures ∙ ap (λ s. with_sorts s sorts) c.scope.ensures)

pub returns-clause-scope : goal.returns-clause-scope
returns-clause-scope c =
    let x = c.args.self.now.context in
    let sorts = c.args.sorts.now in
    on_ok _ c.put_names.result (c.widen.ensures ∙ ap (λ s. record x { scope = s }) (c.with_sorts-scope.ensures ∙ ap (λ s. with_sorts s sorts) c.scope.ensures))
