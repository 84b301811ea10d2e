-- One row more. Rows that are wide have width at least 2 ^ 63.
use Rattle.std.proofs.Common.{ap, ◌∙◌, arith}
use Rattle.e_literal.specs.Rows.{terms_of_rows}
use Rattle.e_literal.specs.Width.{width_over}
use Rattle.e_fraction.specs.Views.{views_of_rows}
use Rattle.e_fraction.proofs.Products.{one_row_more, all_rows}
use Rattle.e_fraction.proofs.Wideness.{wide_rows_width}
use Rattle.e_fraction.proofs.widths.width.Goals as goal

pub loop-i-preserved : goal.loop-i-preserved
loop-i-preserved c =
    c.times_weights-product.ensures
    ∙ ap (λ rs. width_over (views_of_rows c.args.rows.now) (terms_of_rows (views_of_rows rs))) (one_row_more c.args.rows.now c.loop-i.i c.index-rows-i.result c.loop-i-test.true c.index-rows-i.is)

pub returns-clause-wide : goal.returns-clause-wide
returns-clause-wide c h =
    omega (arith, all_rows c.args.rows.now c.loop-i.i c.loop-i.product c.loop-i-test.false c.loop-i.invariant, wide_rows_width (views_of_rows c.args.rows.now) h)
