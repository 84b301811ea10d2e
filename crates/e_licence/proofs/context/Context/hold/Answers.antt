use Rattle.std.proofs.Common.{refl}
use Rattle.e_licence.proofs.HeldStates.{after_hold, hold_is}
use Rattle.e_licence.proofs.context.Context.hold.Goals as goal

pub invariant_of-self-2 : goal.invariant_of-self-2
invariant_of-self-2 c =
    let x = c.self.inside in
    rw c.take-solved.ensures.after
    (after_hold x.scope x.facts x.held.items c.push.new.self.items x.solved (record { scope = x.scope; facts = c.len-facts.result; solved = c.take-solved.result })
    refl c.len-facts.ensures c.take-solved.ensures.value c.in_default.ensures.items c.self.invariant)

pub returns-clause-ok : goal.returns-clause-ok
returns-clause-ok c =
    let x = c.self.inside in
    hold_is x.scope x.facts x.held.items c.push.new.self.items (record { scope = x.scope; facts = c.len-facts.result; solved = c.take-solved.result }) c.args.self.now
    c.self.view_is refl c.len-facts.ensures c.in_default.ensures.items
