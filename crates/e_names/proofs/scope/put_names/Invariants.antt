use Rattle.std.proofs.Common.{◌≡◌}
use Rattle.std.specs.Slice.Iter.{iter_rest}
use Rattle.std.specs.Iterator.Adapters.{zip_first, zip_second}
use Rattle.e_deriv.specs.Naming.{with_new_names}
use Rattle.e_names.proofs.scope.put_names.Given as goal

abbrev pub invariant-loop-sort : goal.invariant-loop-sort
invariant-loop-sort l =
    with_new_names l.names (iter_rest (zip_first l.sort-iterator)) (iter_rest (zip_second l.sort-iterator)) ≡ with_new_names l.fn.names l.sorts l.new
