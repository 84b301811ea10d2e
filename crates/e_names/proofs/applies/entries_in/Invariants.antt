use Rattle.std.proofs.Common.{◌≡◌}
use Rattle.std.specs.Slice.Iter.{iter_rest}
use Rattle.std.specs.Iterator.Adapters.{zip_first, zip_second}
use Rattle.e_line.specs.Reading.{with_front}
use Rattle.e_names.specs.Applies.{entries_in}
use Rattle.e_names.proofs.applies.entries_in.Given as goal

abbrev pub invariant-loop-sort : goal.invariant-loop-sort
invariant-loop-sort l =
    with_front l.found (entries_in l.names (iter_rest (zip_first l.sort-iterator)) (iter_rest (zip_second l.sort-iterator))) ≡ entries_in l.names l.sorts l.of
