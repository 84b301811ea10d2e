use Rattle.std.proofs.Common.{sym, ap, ◌∙◌}
use Rattle.e_deriv.specs.Steps.{is_cited}
use Rattle.e_prove.proofs.LicensedSteps.{licensed_cite}
use Rattle.e_prove.proofs.step.license_cite.Goals as goal

pub returns-clause-ok : goal.returns-clause-ok
returns-clause-ok c before =
    let x = c.args.state.now in
    let by = c.args.by.now in
    licensed_cite before by c.in_ok-derived.derived x _ c.in_ok-derived.ensures
    (sym (c.in_ok-is_cited.ensures ∙ ap (λ facts. is_cited facts by) c.facts.ensures.facts) ∙ c.if-not-branch.false)
    c.in_ok-assume.ensures
