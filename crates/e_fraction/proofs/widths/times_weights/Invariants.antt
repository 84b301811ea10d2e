-- The width over the terms of the rows before, and of this row's summands passed.
use Rattle.std.proofs.Common.{◌≡◌, ◌++◌, take, map}
use Rattle.e_literal.specs.Rows.{terms_of_rows}
use Rattle.e_literal.specs.Width.{width_over}
use Rattle.e_fraction.specs.Views.{views_of_rows}
use Rattle.e_fraction.proofs.widths.times_weights.Given as goal

abbrev pub invariant-loop-j : goal.invariant-loop-j
invariant-loop-j l = l.product ≡ width_over (views_of_rows l.rows) (terms_of_rows (views_of_rows l.before) ++ map (λ p. p.1) (take l.j l.form))
