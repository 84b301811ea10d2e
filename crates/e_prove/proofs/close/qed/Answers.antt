use Rattle.std.proofs.Common.{◌≡◌, sym, ◌∙◌, subst, true}
use Rattle.std.proofs.lemmas.Result.{err_from_is_err_and}
use Rattle.std.specs.Prelude.{IsTrue}
use Rattle.e_clause.specs.Certify.{certify_all}
use Rattle.e_clause.specs.LimitedFacts.{are_well_formed_in}
use Rattle.e_deriv.specs.Goal.{goal_view}
use Rattle.e_deriv.proofs.Sorts.{sorts_agree}
use Rattle.e_prove.proofs.Closes.{closed_qed, qed_stops}
use Rattle.e_prove.proofs.close.qed.Goals as goal

pub goal_with-requires : goal.goal_with-requires
goal_with-requires c = record { one_sort = sorts_agree c.args.context.now.scope _ c.args.objects.now c.requires.form }

pub licences-requires : goal.licences-requires
licences-requires c = subst (λ ls. are_well_formed_in c.args.context.now.scope ls ≡ true) (sym (c.deref.ensures.value ∙ c.in_ok-wanted.ensures)) c.requires.lits

pub returns-in_err-certs-clause-err : goal.returns-in_err-certs-clause-err
returns-in_err-certs-clause-err c =
    let p = err_from_is_err_and c.from_residual-in_err-certs.result c.from_residual-in_err-certs.ensures.1 in
    let wanted = c.deref.result.now in
    rw (p.1, p.2)
    (λ before written. qed_stops before c.args.objects.now written wanted c.args.context.now (goal_view c.args.goal.now) c.in_err-certs.field-0.0 (c.deref.ensures.value ∙ c.in_ok-wanted.ensures) c.in_err-certs.ensures.err)

pub returns-clause-ok : goal.returns-clause-ok
returns-clause-ok c before written =
    let x = c.args.context.now in
    let certs = c.in_ok-certs.certs.items in
    closed_qed before c.args.objects.now c.new.result written certs c.new-2.result c.in_ok-wanted.wanted.items x (goal_view c.args.goal.now)
    (c.new.ensures ∙ c.in_ok-copied.ensures.items) c.new-2.ensures c.in_ok-wanted.ensures c.requires.form
    (subst (λ ls. IsTrue (certify_all x.scope x.facts ls certs)) c.deref.ensures.value c.in_ok-certs.ensures.ok) c.in_ok-certs.ensures.version
