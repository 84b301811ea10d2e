use Rattle.std.proofs.Common.{◌≡◌, ◌≤◌, ◌*◌, ◌^◌, take}
use Rattle.std.specs.Prelude.{unsigned_abs}
use Rattle.e_simplex.specs.Constraints.{value_of_monomials}
use Rattle.e_simplex.proofs.constraints.value_of.Given as goal

abbrev pub invariant-loop-x : goal.invariant-loop-x
invariant-loop-x l = record {
  value : l.sum ≡ value_of_monomials (take l.x-index l.form) l.values;
  small : unsigned_abs l.sum ≤ l.x-index * 2 ^ 93;
}
