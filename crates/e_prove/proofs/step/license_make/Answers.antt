use Rattle.std.proofs.Common.{◌≡◌, sym, ap, ◌∙◌, subst, true}
use Rattle.std.specs.Prelude.{IsTrue}
use Rattle.e_literal.specs.Facts.{with_facts}
use Rattle.e_literal.specs.Scopes.{with_sorts}
use Rattle.e_clause.specs.LimitedFacts.{are_limited_facts}
use Rattle.e_clause.specs.Certify.{certify_all}
use Rattle.e_construct.specs.Construct.{sorts_made, gives_of_construction}
use Rattle.e_licence.specs.Contexts.{Basis}
use Rattle.e_prove.specs.inner.NextStates.{HasRoomForMore, after_make}
use Rattle.e_prove.proofs.HeldStates.{unless}
use Rattle.e_prove.proofs.LicensedSteps.{licensed_make}
use Rattle.e_prove.proofs.step.license_make.Goals as goal

pub returns-in_err-certs-clause-kept : goal.returns-in_err-certs-clause-kept
returns-in_err-certs-clause-kept c = unless _ c.from_residual-in_err-certs.result (ap (λ (b : Basis). record c.args.state.now { context = b }) c.in_err-certs.ensures.kept)

pub make-requires-clause-room : goal.make-requires-clause-room
make-requires-clause-room c = subst (λ (b : Basis). HasRoomForMore b.scope) (sym c.in_ok-certs.ensures.kept) c.requires.room

pub make-requires-clause-after : goal.make-requires-clause-after
make-requires-clause-after c =
    let construction = c.args.construction.now in
    subst (λ (b : Basis). are_limited_facts (with_sorts b.scope (sorts_made construction)) (with_facts b.facts (gives_of_construction construction b.scope)) ≡ true)
    (sym c.in_ok-certs.ensures.kept) c.requires.after

pub returns-in-Ok-clause-ok : goal.returns-in-Ok-clause-ok
returns-in-Ok-clause-ok c before written =
    let x = c.args.state.now in
    let construction = c.args.construction.now in
    let names = c.args.names.now in
    let certs = c.in_ok-certs.certs.items in
    licensed_make before construction c.in_ok-derived.derived names c.new.result written certs c.new-in-Ok.result c.in_ok-needs.needs.items x _
    c.in_ok-derived.ensures (c.new.ensures ∙ c.in_ok-copied.ensures.items) c.new-in-Ok.ensures c.in_ok-needs.ensures
    (subst (λ ls. IsTrue (certify_all x.context.scope x.context.facts ls certs)) c.deref.ensures.value c.in_ok-certs.ensures.ok) c.in_ok-certs.ensures.version
    (c.in-Ok.ensures ∙ ap (λ (b : Basis). after_make construction names (record x { context = b })) c.in_ok-certs.ensures.kept)
