use Rattle.std.proofs.Common.{ap, sym, ◌∙◌}
use Rattle.std.specs.List.{list_all}
use Rattle.e_literal.specs.WellFormed.{is_well_formed}
use Rattle.e_clause.specs.Certify.{certify_all}
use Rattle.e_theorem.specs.Statements.{as_view}
use Rattle.e_verify.specs.StepStates.{state_after_use}
use Rattle.e_verify.proofs.steps.check_use.Goals as goal

pub certify_all-requires-clause-lits : goal.certify_all-requires-clause-lits
certify_all-requires-clause-lits c = ap (list_all is_well_formed) c.items.ensures ∙ c.requires.needs

pub returns-then-not-branch-clause-test : goal.returns-then-not-branch-clause-test
returns-then-not-branch-clause-test c =
    let x = c.args.state.now in
    sym c.if-not-branch.true ∙ c.in_ok-certify_all.ensures ∙ ap (λ ls. certify_all x.scope x.facts ls c.args.certs.now) c.items.ensures

pub returns-clause-test : goal.returns-clause-test
returns-clause-test c =
    let x = c.args.state.now in
    sym c.if-not-branch.false ∙ c.in_ok-certify_all.ensures ∙ ap (λ ls. certify_all x.scope x.facts ls c.args.certs.now) c.items.ensures

pub returns-clause-after : goal.returns-clause-after
returns-clause-after c t = c.in_ok-take_use.ensures ∙ ap (λ ls. state_after_use (as_view c.args.statement.now) ls c.args.state.now) c.items-2.ensures
