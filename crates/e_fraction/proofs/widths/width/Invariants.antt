-- The width over the terms of the rows passed.
use Rattle.std.proofs.Common.{◌≡◌, take}
use Rattle.e_literal.specs.Rows.{terms_of_rows}
use Rattle.e_literal.specs.Width.{width_over}
use Rattle.e_fraction.specs.Views.{views_of_rows}
use Rattle.e_fraction.proofs.widths.width.Given as goal

abbrev pub invariant-loop-i : goal.invariant-loop-i
invariant-loop-i l = l.product ≡ width_over (views_of_rows l.rows) (terms_of_rows (views_of_rows (take l.i l.rows)))
