use Rattle.std.proofs.Common.{◌≡◌, ◌+◌, sym, subst, take}
use Rattle.e_simplex.specs.inner.Tried.{neg_form}
use Rattle.e_simplex.proofs.columns.Negatives.{negated_more}
use Rattle.e_simplex.proofs.unequal.less_than_zero.Goals as goal

pub loop-x-preserved : goal.loop-x-preserved
loop-x-preserved c =
    subst (λ v. c.push.new.self.items ≡ neg_form (take (c.loop-x.x-index + 1) v)) c.items-x-items.ensures
    (negated_more c.items-x-items.result.now c.loop-x.x-index _ c.negated_monomial.result c.loop-x.form.items c.push.new.self.items c.loop-x-test.true
    (subst (λ v. c.loop-x.form.items ≡ neg_form (take c.loop-x.x-index v)) (sym c.items-x-items.ensures) c.loop-x.invariant) c.in_ok-push.ensures.items
    c.negated_monomial.ensures.coefficient c.negated_monomial.ensures.column)
