use Rattle.std.proofs.Common.{ap, ◌∙◌}
use Rattle.e_deriv.specs.declared.block.Step.TheVariants.{Make as MakeStep}
use Rattle.e_places.specs.Numbered.{certs_with_places}
use Rattle.e_places.proofs.placing.NumberedSteps.{make_numbered}
use Rattle.e_places.proofs.numbering.make.Goals as goal

pub returns-in-Ok : goal.returns-in-Ok
returns-in-Ok c before =
    let x = c.args.state.now in
    let construction = c.args.construction.now in
    let names = c.args.names.now in
    let wanted = c.deref.ensures.value ∙ c.in_ok-needs.ensures in
    let placed = c.in_ok-certs.certs in
    make_numbered before construction names c.args.certs.now x _ _
    (ap (λ f. MakeStep f c.new-names.result placed) c.in-Ok.ensures.construction
    ∙ ap (λ ns. MakeStep construction ns placed) (c.new-names.ensures ∙ c.in_ok-from_slice.ensures.items)
    ∙ ap (MakeStep construction names) (c.in_ok-certs.ensures ∙ ap (λ ls. certs_with_places x.facts ls c.args.certs.now) wanted))
    c.in-Ok.ensures.after
