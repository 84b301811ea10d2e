use Rattle.std.proofs.Common.{◌≡◌, length, sym, ◌∙◌, subst, ap, arith, true}
use Rattle.e_literal.specs.Rows.{Summands, coefficient}
use Rattle.e_fraction.specs.Distinct.{have_distinct_terms}
use Rattle.e_fraction.specs.Limits.{has_small_coefficients}
use Rattle.e_metric.specs.AgreeingRows.{has_no_zero}
use Rattle.e_metric.specs.inner.Differences.{difference_form}
use Rattle.e_metric.proofs.rows.Forms.{is_joined, joined_coefficient, joined_length, no_zero, all_small}
use Rattle.e_metric.proofs.literals.difference.Goals as goal

pub new-requires : goal.new-requires
new-requires c =
    subst (λ (f : Summands). have_distinct_terms f ≡ true) (sym c.in_ok-summands.ensures) (is_joined c.args.x.now c.args.y.now).distinct

pub returns-clause-coefficients : goal.returns-clause-coefficients
returns-clause-coefficients c =
    λ t. ap (λ (f : Summands). coefficient f t) (c.new.ensures ∙ c.in_ok-summands.ensures) ∙ joined_coefficient c.args.x.now c.args.y.now t

pub returns-clause-no_zero : goal.returns-clause-no_zero
returns-clause-no_zero c =
    let x = c.args.x.now in
    let y = c.args.y.now in
    subst (λ (f : Summands). has_no_zero f ≡ true) (sym (c.new.ensures ∙ c.in_ok-summands.ensures)) (no_zero x y (difference_form x y) (is_joined x y).are_summands)

pub returns-clause-small : goal.returns-clause-small
returns-clause-small c =
    let x = c.args.x.now in
    let y = c.args.y.now in
    subst (λ (f : Summands). has_small_coefficients f ≡ true) (sym (c.new.ensures ∙ c.in_ok-summands.ensures))
    (all_small x y (difference_form x y) c.requires.few c.requires.left c.requires.right (is_joined x y).are_summands)

pub returns-clause-short : goal.returns-clause-short
returns-clause-short c = omega (
  arith,
  ap (λ (f : Summands). length f) (c.new.ensures ∙ c.in_ok-summands.ensures),
  joined_length c.args.x.now c.args.y.now,
  c.requires.few,
)
