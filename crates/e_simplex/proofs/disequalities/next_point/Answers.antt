use Rattle.std.proofs.Common.{◌≡◌, subst, get_or, inr}
use Rattle.std.proofs.lemmas.List.{get_or_read}
use Rattle.e_simplex.specs.declared.constraints.Constraint.{Constraint}
use Rattle.e_simplex.specs.inner.Disequalities.{LargeForm, IsMoved}
use Rattle.e_simplex.specs.Solved.{columns_of, constraints_of}
use Rattle.e_simplex.proofs.forms_not_zero.NextPoints.{next_point_is, step_wide_two}
use Rattle.e_simplex.proofs.disequalities.next_point.Goals as goal

pub returns-in-None : goal.returns-in-None
returns-in-None c =
    let l = c.index-forms-k.result in
    let at : (d : Constraint) → c.index-forms-k.result ≡ get_or c.args.forms.now c.args.k d
    = λ d. get_or_read c.args.forms.now c.args.k c.index-forms-k.result c.requires.here c.index-forms-k.is d in
    let f = rw c.in-Found.is at c.in_ok-try_both.ensures in
    let g = rw c.in-None.is at c.in_ok-moved_point-in-Found.ensures in
    inr (step_wide_two (columns_of c.args.solved.now) (constraints_of c.args.solved.now) c.args.forms.now c.args.k l at c.requires.here c.in-Found.found.items c.requires.forms f
    (subst (LargeForm c.args.forms.now c.args.k) c.deref-in-Found-2.ensures.value g))

pub returns : goal.returns
returns c =
    let l = c.index-forms-k.result in
    let at : (d : Constraint) → c.index-forms-k.result ≡ get_or c.args.forms.now c.args.k d
    = λ d. get_or_read c.args.forms.now c.args.k c.index-forms-k.result c.requires.here c.index-forms-k.is d in
    let f = rw c.in-Found.is at c.in_ok-try_both.ensures in
    let g = rw c.in-Some.is at c.in_ok-moved_point-in-Found.ensures in
    let values = c.args.point.now.values.items in
    let form_values = c.args.point.now.form_values.items in
    let found = c.in-Found.found.items in
    let g1 = subst (λ v. IsMoved c.args.forms.now c.args.k v c.deref-in-Found.result.now c.deref-in-Found-2.result.now g.0 g.1 c.in-Some.more) c.deref.ensures.value g.2 in
    let g2 = subst (λ v. IsMoved c.args.forms.now c.args.k values v c.deref-in-Found-2.result.now g.0 g.1 c.in-Some.more) c.deref-in-Found.ensures.value g1 in
    let g3 = subst (λ v. IsMoved c.args.forms.now c.args.k values form_values v g.0 g.1 c.in-Some.more) c.deref-in-Found-2.ensures.value g2 in
    next_point_is (columns_of c.args.solved.now) (constraints_of c.args.solved.now) c.args.forms.now c.args.k l at c.requires.here values form_values found g.0 g.1 c.in-Some.more
    c.requires.solved.fit.within c.requires.forms c.requires.point c.requires.none f g3
