use Rattle.std.proofs.Common.{◌≡◌, sym, subst, ap, ◌∙◌}
use Rattle.std.proofs.lemmas.Result.{err_from_is_err_and}
use Rattle.e_theorem.specs.Statements.{as_view}
use Rattle.e_licence.specs.Contexts.{Basis}
use Rattle.e_prove.specs.inner.Applications.{CanApply, IsUse}
use Rattle.e_prove.specs.inner.NextStates.{after_apply}
use Rattle.e_prove.proofs.HeldStates.{unless}
use Rattle.e_prove.proofs.Applications.{licensed_apply, apply_stops}
use Rattle.e_prove.proofs.application.license_apply.Goals as goal

pub returns-in_err-used-clause-err : goal.returns-in_err-used-clause-err
returns-in_err-used-clause-err c =
    let p = err_from_is_err_and c.from_residual-in_err-used.result c.from_residual-in_err-used.ensures.1 in
    let y = c.args.application.now in
    rw (p.1, p.2) (λ before certs e. apply_stops before y.theorem y.args.now y.names.now certs (as_view c.args.statement.now) c.args.state.now c.in_err-used.field-0.0 e c.in_err-used.ensures.err)

pub returns-in_err-used-clause-kept : goal.returns-in_err-used-clause-kept
returns-in_err-used-clause-kept c = unless _ c.from_residual-in_err-used.result (ap (λ (b : Basis). record c.args.state.now { context = b }) c.in_err-used.ensures.kept)

pub take_use-requires-clause-apply : goal.take_use-requires-clause-apply
take_use-requires-clause-apply c = subst (CanApply (as_view c.args.statement.now) c.args.application.now.args.now) (sym c.in_ok-used.ensures.kept) c.requires

pub take_use-requires-clause-used : goal.take_use-requires-clause-used
take_use-requires-clause-used c =
    subst (λ (b : Basis). IsUse (as_view c.args.statement.now) c.args.application.now.args.now b c.in_ok-used.used) (sym c.in_ok-used.ensures.kept) c.in_ok-used.ensures.ok

pub returns-in-Ok-clause-ok : goal.returns-in-Ok-clause-ok
returns-in-Ok-clause-ok c before old e =
    let x = c.args.state.now in
    let y = c.args.application.now in
    let t = as_view c.args.statement.now in
    let u = c.in_ok-used.used in
    licensed_apply before y.theorem y.args.now c.in-Ok.args y.names.now c.new.result old c.new-in-Ok.result t x _ u e c.in_ok-used.ensures.ok
    c.in-Ok.ensures.args (c.new.ensures ∙ c.in_ok-names.ensures.items) c.new-in-Ok.ensures
    (c.in-Ok.ensures.after ∙ ap (λ (b : Basis). after_apply t u.args y.names.now (record x { context = b })) c.in_ok-used.ensures.kept)
