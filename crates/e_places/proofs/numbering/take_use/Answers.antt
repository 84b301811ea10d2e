use Rattle.std.proofs.Common.{ap, ◌∙◌}
use Rattle.e_theorem.specs.Statements.{as_view}
use Rattle.e_deriv.specs.declared.block.Step.TheVariants.{Apply as ApplyStep}
use Rattle.e_places.specs.Numbered.{certs_with_places}
use Rattle.e_verify.specs.StepStates.{state_after_use}
use Rattle.e_places.proofs.numbering.take_use.Goals as goal

pub returns-in-Ok-clause-step : goal.returns-in-Ok-clause-step
returns-in-Ok-clause-step c =
    let y = c.args.application.now in
    let args = y.args.now in
    let names = y.names.now in
    let placed = c.in_ok-certs.certs in
    ap (λ as1. ApplyStep y.theorem as1 c.new-names.result placed) (c.new-args.ensures ∙ c.in_ok-from_slice.ensures.items)
    ∙ ap (λ ns. ApplyStep y.theorem args ns placed) (c.new-names.ensures ∙ c.in_ok-from_slice-2.ensures.items)
    ∙ ap (ApplyStep y.theorem args names) (c.in_ok-certs.ensures ∙ ap (λ ls. certs_with_places c.args.state.now.facts ls y.certs.now) c.items.ensures)

pub returns-in-Ok-clause-after : goal.returns-in-Ok-clause-after
returns-in-Ok-clause-after c = c.in-Ok.ensures ∙ ap (λ ls. state_after_use (as_view c.args.statement.now) ls c.args.state.now) c.items-2.ensures
