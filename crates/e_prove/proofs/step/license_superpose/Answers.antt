use Rattle.std.proofs.Common.{◌≡◌, sym, ap, ◌∙◌, subst, true}
use Rattle.e_literal.specs.Facts.{with_facts}
use Rattle.e_literal.specs.Scopes.{with_sorts}
use Rattle.e_clause.specs.LimitedFacts.{are_limited_facts}
use Rattle.e_construct.specs.Superposing as superposing
use Rattle.e_licence.specs.Contexts.{Basis}
use Rattle.e_prove.specs.inner.NextStates.{HasRoomForMore, after_superposed}
use Rattle.e_prove.proofs.HeldStates.{unless}
use Rattle.e_prove.proofs.step.license_superpose.Goals as goal

pub returns-in_err-certs-clause-kept : goal.returns-in_err-certs-clause-kept
returns-in_err-certs-clause-kept c = unless _ c.from_residual-in_err-certs.result (ap (λ (b : Basis). record c.args.state.now { context = b }) c.in_err-certs.ensures.kept)

pub superpose-requires-clause-room : goal.superpose-requires-clause-room
superpose-requires-clause-room c = subst (λ (b : Basis). HasRoomForMore b.scope) (sym c.in_ok-certs.ensures.kept) c.requires.room

pub superpose-requires-clause-after : goal.superpose-requires-clause-after
superpose-requires-clause-after c =
    let superposition = c.args.superposition.now in
    subst (λ (b : Basis). are_limited_facts (with_sorts b.scope superposing.sorts_copied) (with_facts b.facts (superposing.gives_of_superposition superposition b.scope)) ≡ true)
    (sym c.in_ok-certs.ensures.kept) c.requires.after

pub returns-in-Ok-clause-after : goal.returns-in-Ok-clause-after
returns-in-Ok-clause-after c =
    c.in-Ok.ensures ∙ ap (λ (b : Basis). after_superposed c.args.superposition.now c.args.names.now (record c.args.state.now { context = b })) c.in_ok-certs.ensures.kept
