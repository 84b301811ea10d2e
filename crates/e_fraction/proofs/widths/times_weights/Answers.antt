-- A term that stands nowhere before brings its weight, and any other nothing.
use Rattle.std.proofs.Common.{◌*◌, ◌-◌, ◌^◌, min, ap, sym, ◌∙◌, pos}
use Rattle.e_literal.specs.declared.object.Term.TheVariants.{Seg}
use Rattle.e_literal.specs.Rows.{terms_of_rows}
use Rattle.e_fraction.specs.Views.{views_of_rows}
use Rattle.e_fraction.proofs.Products.{row_passed, width_step_new, width_step_known}
use Rattle.e_fraction.proofs.widths.times_weights.Goals as goal
use Rattle.e_fraction.proofs.widths.times_weights.Goals.{then-is_new, else-is_new}

pub loop-j-preserved : goal.loop-j-preserved
loop-j-preserved c = elim c.if-is_new.branch [
  | then-is_new w ↦
      w.product-is
      ∙ w.saturating_mul-product.ensures
      ∙ ap (λ n. min (c.loop-j.product * n) (2 ^ 128 - 1)) w.weight.ensures
      ∙ width_step_new (views_of_rows c.args.rows.now) (terms_of_rows (views_of_rows c.args.before.now)) c.summands-form.result.now c.loop-j.j (pos 0, Seg 0 0) c.loop-j.product c.loop-j-test.true
      (sym c.is_new.ensures ∙ w.if-is_new.true) c.loop-j.invariant
  | else-is_new w ↦
      w.product-is
      ∙ width_step_known (views_of_rows c.args.rows.now) (terms_of_rows (views_of_rows c.args.before.now)) c.summands-form.result.now c.loop-j.j (pos 0, Seg 0 0) c.loop-j.product c.loop-j-test.true
      (sym c.is_new.ensures ∙ w.if-is_new.false) c.loop-j.invariant
]

pub returns : goal.returns
returns c =
    row_passed (views_of_rows c.args.rows.now) c.args.before.now c.args.row.now c.summands-form.result.now c.loop-j.j c.loop-j.product c.summands-form.ensures.value c.loop-j-test.false c.loop-j.invariant
