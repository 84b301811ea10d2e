use Rattle.std.proofs.Common.{◌≡◌, sym, ap, ◌∙◌, subst, true}
use Rattle.e_literal.specs.Facts.{with_fact}
use Rattle.e_clause.specs.LimitedFacts.{are_limited_facts}
use Rattle.e_licence.specs.Contexts.{Basis}
use Rattle.e_prove.specs.inner.NextStates.{after_literal}
use Rattle.e_prove.proofs.HeldStates.{unless}
use Rattle.e_prove.proofs.LicensedSteps.{licensed_hence}
use Rattle.e_prove.proofs.step.license_hence.Goals as goal

-- what is solved for the literal changes nothing that is seen
pub returns-in_err-cert-clause-kept : goal.returns-in_err-cert-clause-kept
returns-in_err-cert-clause-kept c = unless _ c.from_residual.result (ap (λ (b : Basis). record c.args.state.now { context = b }) c.in_err-cert.ensures.kept)

pub assume_copy-requires : goal.assume_copy-requires
assume_copy-requires c = subst (λ (b : Basis). are_limited_facts b.scope (with_fact b.facts c.args.lit.now) ≡ true) (sym c.in_ok-cert.ensures.kept) c.requires.after

pub returns-in-Ok-clause-ok : goal.returns-in-Ok-clause-ok
returns-in-Ok-clause-ok c before written =
    let x = c.args.state.now in
    let l = c.args.lit.now in
    licensed_hence before l c.in-Ok.lit written c.in_ok-cert.cert x _ c.in-Ok.ensures.lit c.in_ok-cert.ensures.ok c.in_ok-cert.ensures.version
    (c.in-Ok.ensures.after ∙ ap (λ (b : Basis). after_literal l (record x { context = b })) c.in_ok-cert.ensures.kept)
