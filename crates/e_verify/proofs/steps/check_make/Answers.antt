use Rattle.std.proofs.Common.{ap, sym, ◌∙◌}
use Rattle.std.specs.List.{list_all}
use Rattle.e_literal.specs.WellFormed.{is_well_formed}
use Rattle.e_clause.specs.Certify.{certify_all}
use Rattle.e_verify.proofs.checking.CertifiedLines.{checked_make, make_formed}
use Rattle.e_verify.proofs.steps.check_make.Goals as goal

pub certify_all-certified-requires-clause-lits : goal.certify_all-certified-requires-clause-lits
certify_all-certified-requires-clause-lits c =
    ap (list_all is_well_formed) (c.deref.ensures.value ∙ c.in_ok-needs.ensures) ∙ make_formed c.args.construction.now c.args.state.now.scope (sym c.fits.ensures ∙ c.if-not-fits.false)

pub returns : goal.returns
returns c before names =
    let x = c.args.state.now in
    checked_make before c.args.construction.now names c.args.certs.now x _ (sym c.fits.ensures ∙ c.if-not-fits.false)
    (ap (λ ls. certify_all x.scope x.facts ls c.args.certs.now) (sym (c.deref.ensures.value ∙ c.in_ok-needs.ensures)) ∙ sym c.in_ok-certified.ensures ∙ c.if-not-branch.false)
    c.in_ok-make.ensures
