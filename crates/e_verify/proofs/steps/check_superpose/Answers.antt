use Rattle.std.proofs.Common.{ap, sym, ◌∙◌}
use Rattle.std.specs.List.{list_all}
use Rattle.e_literal.specs.WellFormed.{is_well_formed}
use Rattle.e_clause.specs.Certify.{certify_all}
use Rattle.e_verify.proofs.checking.CertifiedLines.{superposed_formed, superposed_certified}
use Rattle.e_verify.proofs.steps.check_superpose.Goals as goal

pub certify_all-certified-requires-clause-lits : goal.certify_all-certified-requires-clause-lits
certify_all-certified-requires-clause-lits c =
    ap (list_all is_well_formed) (c.deref.ensures.value ∙ c.in_ok-needs.ensures) ∙ superposed_formed c.args.superposition.now c.args.state.now.scope (sym c.fits.ensures ∙ c.if-not-fits.false)

pub returns-clause-test : goal.returns-clause-test
returns-clause-test c =
    let x = c.args.state.now in
    superposed_certified c.args.superposition.now c.args.shown.now c.args.certs.now x (sym c.fits.ensures ∙ c.if-not-fits.false) (sym c.are_over.ensures ∙ c.if-not-are_over.false)
    (ap (λ ls. certify_all x.scope x.facts ls c.args.certs.now) (sym (c.deref.ensures.value ∙ c.in_ok-needs.ensures)) ∙ sym c.in_ok-certified.ensures ∙ c.if-not-branch.false)

pub returns-clause-after : goal.returns-clause-after
returns-clause-after c t = c.in_ok-superpose.ensures
