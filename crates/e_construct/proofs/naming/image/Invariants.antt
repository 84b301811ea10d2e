use Rattle.std.proofs.Common.{◌≡◌}
use Rattle.std.specs.Slice.Iter.{iter_rest}
use Rattle.std.specs.Iterator.Adapters.{zip_first, zip_second}
use Rattle.e_literal.specs.Rename.{image_in, pairs_of}
use Rattle.e_construct.proofs.naming.image.Given as goal

abbrev pub invariant-loop-name : goal.invariant-loop-name
invariant-loop-name l =
    image_in (pairs_of (iter_rest (zip_first l.name-iterator)) (iter_rest (zip_second l.name-iterator))) l.letter ≡ image_in (pairs_of l.letters l.objects) l.letter
