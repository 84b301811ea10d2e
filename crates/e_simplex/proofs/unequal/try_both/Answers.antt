use Rattle.std.proofs.Common.{◌≡◌, sym, subst}
use Rattle.e_simplex.specs.Constraints.{IsSmallConstraint, FormWithin}
use Rattle.e_simplex.specs.Solved.{columns_of, constraints_of}
use Rattle.e_simplex.specs.inner.Tried.{negative_constraint}
use Rattle.e_simplex.proofs.columns.Negatives.{one_constraint, last_constraint, fit_other, negative_small, negative_within, found_above, found_below}
use Rattle.e_simplex.proofs.unequal.try_both.Goals as goal

pub with-outcome-requires-clause-fit : goal.with-outcome-requires-clause-fit
with-outcome-requires-clause-fit c =
    let e : c.in_ok-negated-in-Absurd.negated ≡ negative_constraint c.args.constraint.now
    = one_constraint c.in_ok-negated-in-Absurd.negated c.args.constraint.now c.in_ok-negated-in-Absurd.ensures.sense c.in_ok-negated-in-Absurd.ensures.form in
    let a = last_constraint (columns_of c.args.solved.now) (constraints_of c.args.solved.now) c.args.constraint.now c.requires.fit in
    fit_other (columns_of c.args.solved.now) (constraints_of c.args.solved.now) c.args.constraint.now c.in_ok-negated-in-Absurd.negated
    c.requires.solved.fit.small c.requires.solved.fit.within c.requires.fit (subst IsSmallConstraint (sym e) (negative_small c.args.constraint.now a.0))
    (subst (λ x. FormWithin (columns_of c.args.solved.now) x.form) (sym e) (negative_within (columns_of c.args.solved.now) c.args.constraint.now a.1))

pub returns-in_ok-found-in-Holds : goal.returns-in_ok-found-in-Holds
returns-in_ok-found-in-Holds c =
    let h = rw c.in-Holds.is at c.in_ok-more.ensures in
    let v = c.in_ok-found-in-Holds.ensures in
    found_above (columns_of c.args.solved.now) (constraints_of c.args.solved.now) c.args.constraint.now c.in-Holds.more c.in_ok-found-in-Holds.field-0.items c.requires.more h
    c.in_ok-found-in-Holds.ensures.solution c.in_ok-found-in-Holds.ensures.small c.in_ok-found-in-Holds.ensures.bounded c.in_ok-found-in-Holds.ensures.further

pub returns-in_ok-found-in-Holds-2 : goal.returns-in_ok-found-in-Holds-2
returns-in_ok-found-in-Holds-2 c =
    let e : c.in_ok-negated-in-Absurd.negated ≡ negative_constraint c.args.constraint.now
    = one_constraint c.in_ok-negated-in-Absurd.negated c.args.constraint.now c.in_ok-negated-in-Absurd.ensures.sense c.in_ok-negated-in-Absurd.ensures.form in
    let h = rw c.in-Holds-2.is at c.in_ok-more-in-Absurd.ensures in
    found_below (columns_of c.args.solved.now) (constraints_of c.args.solved.now) c.in_ok-negated-in-Absurd.negated c.in-Holds-2.more c.in_ok-found-in-Holds-2.field-0.items
    c.in_ok-negated-in-Absurd.ensures.sense h
    c.in_ok-found-in-Holds-2.ensures.solution c.in_ok-found-in-Holds-2.ensures.small c.in_ok-found-in-Holds-2.ensures.bounded c.in_ok-found-in-Holds-2.ensures.further
    c.args.constraint.now e
