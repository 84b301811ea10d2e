use Rattle.std.proofs.Common.{sym, ap, ◌∙◌}
use Rattle.e_literal.specs.Use.{StatementView}
use Rattle.e_theorem.specs.Statements.{as_views}
use Rattle.e_trim.proofs.kept_scripts.StepParts.{made_by_form, made_by_theorem, theorem_there, none_there}
use Rattle.e_trim.proofs.steps.makes.Goals as goal

pub returns-in-Make : goal.returns-in-Make
returns-in-Make c rest = c.made.ensures ∙ sym (made_by_form (as_views c.args.before.now) c.args.step.now c.in-Make.construction c.in-Make.names c.in-Make.certs rest c.in-Make.is)

pub returns-in-Some : goal.returns-in-Some
returns-in-Some c rest =
    let there = theorem_there c.args.before.now c.in-Apply.theorem c.in-Some.statement.now c.in-Some.ensures.lookup.3.0 c.in-Some.ensures.lookup.1 in
    c.items.ensures ∙ sym (made_by_theorem (as_views c.args.before.now) c.args.step.now c.in-Apply.theorem c.in-Apply.args c.in-Apply.names c.in-Apply.certs rest c.in-Apply.is ∙ ap (λ (x : StatementView). x.made) there)

pub returns-in-None : goal.returns-in-None
returns-in-None c rest =
    let before = as_views c.args.before.now in
    sym (made_by_theorem before c.args.step.now c.in-Apply.theorem c.in-Apply.args c.in-Apply.names c.in-Apply.certs rest c.in-Apply.is
    ∙ ap (λ (x : StatementView). x.made) (none_there c.args.before.now c.in-Apply.theorem c.in-None.ensures.lookup.3))
