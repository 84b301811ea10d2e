use Rattle.std.proofs.Common.{◌≡◌, ap, sym, ◌∙◌, Bool, Result, Ok, Err}
use Rattle.std.specs.Prelude.{IfOk}
use Rattle.std.specs.List.{list_all}
use Rattle.e_literal.specs.WellFormed.{is_well_formed}
use Rattle.e_clause.specs.Certify.{certify_all}
use Rattle.e_deriv.specs.Goal.{goal_view}
use Rattle.e_deriv.proofs.Sorts.{sorts_agree}
use Rattle.e_verify.proofs.checking.QedGoals.{goal_formed, qed_certified}
use Rattle.e_verify.proofs.closes.is_qed_certified.Goals as goal

if_ok : {E : Type 0} {P : Bool → Type 0} (r : Result Bool E) (x : Bool) → IfOk r (λ b. b ≡ x) → ((b : Bool) → b ≡ x → P b) → IfOk r P
if_ok (Ok b) x h f = f b h
if_ok (Err e) x h f = h

pub goal_with-requires : goal.goal_with-requires
goal_with-requires c = record { one_sort = sorts_agree c.args.state.now.scope _ c.args.objects.now (sym c.have_sorts_of.ensures ∙ c.if-not-have_sorts_of.false) }

pub certify_all-requires-clause-lits : goal.certify_all-requires-clause-lits
certify_all-requires-clause-lits c =
    ap (list_all is_well_formed) (c.deref.ensures.value ∙ c.in_ok-wanted.ensures) ∙ goal_formed (goal_view c.args.goal.now) c.args.objects.now c.requires.shown

pub returns : goal.returns
returns c =
    let x = c.args.state.now in
    let g = goal_view c.args.goal.now in
    if_ok c.certify_all.result (certify_all x.scope x.facts c.deref.result.now c.args.certs.now) c.certify_all.ensures
    (λ b e before. e ∙ ap (λ ls. certify_all x.scope x.facts ls c.args.certs.now) (c.deref.ensures.value ∙ c.in_ok-wanted.ensures)
    ∙ qed_certified c.args.objects.now c.args.certs.now g x (sym c.have_sorts_of.ensures ∙ c.if-not-have_sorts_of.false) before)
