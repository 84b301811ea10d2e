use Rattle.e_licence.proofs.HeldStates.{after_release, checkpoint_within, release_is}
use Rattle.e_licence.proofs.context.Context.release.Goals as goal

pub back_to-requires : goal.back_to-requires
back_to-requires c =
    let x = c.self.inside in
    checkpoint_within x.scope x.facts x.held.items c.pop.new.self.items x.solved c.in-Some.last c.in-Some.ensures.items c.self.invariant

pub invariant_of-self : goal.invariant_of-self
invariant_of-self c =
    let x = c.self.inside in
    rw c.replace.ensures.after
    (after_release x.scope x.facts c.back_to.new.self x.held.items c.pop.new.self.items x.solved c.in-Some.last c.in-Some.ensures.items c.back_to.ensures c.self.invariant)

pub returns-in-Some : goal.returns-in-Some
returns-in-Some c =
    let x = c.self.inside in
    release_is x.scope x.facts c.back_to.new.self x.held.items c.pop.new.self.items x.solved c.in-Some.last c.args.self.now c.self.view_is c.in-Some.ensures.items c.back_to.ensures
    c.self.invariant
