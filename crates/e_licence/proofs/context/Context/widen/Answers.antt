use Rattle.std.proofs.Common.{sym, ap, subst}
use Rattle.e_licence.specs.Contexts.{Basis, IsWithin}
use Rattle.e_licence.proofs.WiderScopes.{after_widen}
use Rattle.e_licence.proofs.context.Context.widen.Goals as goal

pub invariant_of-self : goal.invariant_of-self
invariant_of-self c =
    let x = c.self.inside in
    after_widen x.scope c.args.scope x.facts x.held.items x.solved (subst (λ (b : Basis). IsWithin b.scope c.args.scope) (sym c.self.view_is) c.requires) c.self.invariant

pub returns : goal.returns
returns c = ap (λ (b : Basis). record b { scope = c.args.scope }) c.self.view_is
