use Rattle.std.proofs.Common.{ap, ◌∙◌}
use Rattle.e_deriv.specs.declared.block.Step.TheVariants.{Hence as HenceStep}
use Rattle.e_places.proofs.placing.NumberedSteps.{hence_numbered}
use Rattle.e_places.proofs.numbering.hence.Goals as goal

pub returns-in-Ok : goal.returns-in-Ok
returns-in-Ok c before =
    let cert = c.in_ok-cert.cert in
    hence_numbered before c.args.lit.now c.args.cert.now c.args.state.now c.add_fact.new.state _
    (ap (λ l. HenceStep l cert) c.in-Ok.ensures.lit ∙ ap (HenceStep c.args.lit.now) c.in_ok-cert.ensures) c.in-Ok.ensures.after
