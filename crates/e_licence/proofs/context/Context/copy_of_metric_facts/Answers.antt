use Rattle.e_licence.proofs.HeldStates.{metric_facts_now}
use Rattle.e_licence.proofs.context.Context.copy_of_metric_facts.Goals as goal

pub returns : goal.returns
returns c =
    let x = c.self.inside in
    metric_facts_now x.scope x.facts x.held.items x.solved c.args.self.now c.copy_or_new.result c.self.view_is c.self.invariant c.copy_or_new.ensures
