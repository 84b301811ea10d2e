use Rattle.std.proofs.Common.{◌≡◌, ◌≤◌, ◌<◌, ◌+◌, ◌*◌, ◌^◌, ◌+ℤ◌, ◌*ℤ◌, pos, ap, sym, subst, ◌∙◌, to_z-of_z, SFits, arith, get_or, length, ℤ}
use Rattle.std.specs.Prelude.{unsigned_abs}
use mir.Syntax.{w128}
use Rattle.e_literal.specs.Rows.{coefficient}
use Rattle.e_literal.proofs.Arith.{fits_wide}
use Rattle.e_fraction.specs.declared.row.Row.{Row}
use Rattle.e_literal.specs.declared.object.Term.{Term}
use Rattle.e_fraction.specs.Limits.{has_small_coefficients}
use Rattle.e_fraction.proofs.Sums.{small_row, good_multiplier, small_coefficient, product_size, total_step, sum_size}
use Rattle.e_metric.specs.inner.TermTotals.{kept_total}
use Rattle.e_metric.proofs.totals.totals_of.Goals as goal

pub add_form-requires-clause-small : goal.add_form-requires-clause-small
add_form-requires-clause-small c =
    let row = c.at.result.now in
    let here : c.loop-i.i < length c.args.rows.now = omega (arith, c.loop-i-test.true, c.requires.lengths) in
    ap has_small_coefficients c.summands.ensures.value ∙ ap (λ (r : Row). has_small_coefficients r.form) (c.at.ensures row) ∙ small_row c.args.rows.now c.loop-i.i row here c.requires.coefficients

pub loop-i-preserved : goal.loop-i-preserved
loop-i-preserved c =
    let rows = c.args.rows.now in
    let weights = c.args.weights.now in
    let i = c.loop-i.i in
    let row = c.at.result.now in
    let weight : ℤ = get_or weights i (pos 0) in
    let here : i < length rows = omega (arith, c.loop-i-test.true, c.requires.lengths) in
    let good : unsigned_abs weight ≤ 2 ^ 80 = good_multiplier weights i c.loop-i-test.true c.requires.good in
    let fm : SFits w128 weight = fits_wide weight (omega (arith, good)) in
    let small = ap (λ (r : Row). has_small_coefficients r.form) (c.at.ensures row) ∙ small_row rows i row here c.requires.coefficients in
    let more = simp to_z-of_z at c.in_ok-add_form.ensures in
    let added : (t : Term) → kept_total c.add_form.new.totals.entries t ≡ kept_total c.loop-i.totals.entries t +ℤ weight *ℤ coefficient row.form t = λ t. more t ∙ ap (λ f. kept_total c.loop-i.totals.entries t +ℤ weight *ℤ coefficient f t) c.summands.ensures.value in
    record {
      value = λ t.
          added t
          ∙ total_step rows weights i row t (kept_total c.loop-i.totals.entries t) (weight *ℤ coefficient row.form t) here c.loop-i-test.true (c.loop-i.invariant.value t)
          (ap (λ (r : Row). weight *ℤ coefficient r.form t) (c.at.ensures row));
      size = λ t.
          subst (λ z. unsigned_abs z ≤ (i + 1) * 2 ^ 110) (sym (added t))
          (sum_size (kept_total c.loop-i.totals.entries t) (weight *ℤ coefficient row.form t) i (c.loop-i.invariant.size t)
          (product_size weight (coefficient row.form t) good (small_coefficient row.form t small c.summands.ensures.distinct)));
    }
