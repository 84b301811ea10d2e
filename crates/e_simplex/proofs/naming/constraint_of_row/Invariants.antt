use Rattle.std.proofs.Common.{◌≡◌, take}
use Rattle.e_simplex.specs.Naming.{named_form}
use Rattle.e_simplex.proofs.naming.constraint_of_row.Given as goal

abbrev pub invariant-loop-coefficient : goal.invariant-loop-coefficient
invariant-loop-coefficient l = l.form.items ≡ named_form l.terms (take l.coefficient-index l.row.form)
