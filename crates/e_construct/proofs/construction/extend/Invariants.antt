use Rattle.std.proofs.Common.{◌≡◌, ◌++◌, map, drop}
use Rattle.e_literal.specs.Rename.{with_images}
use Rattle.e_construct.specs.inner.Views.{lit_of_shape_pattern, image_of}
use Rattle.e_construct.proofs.construction.extend.Given as goal

abbrev pub invariant-loop-pattern : goal.invariant-loop-pattern
invariant-loop-pattern l =
    l.lits.items ++ map (with_images (image_of l.naming)) (map lit_of_shape_pattern (drop l.pattern-index l.patterns))
    ≡ l.initial.lits.items ++ map (with_images (image_of l.naming)) (map lit_of_shape_pattern l.patterns)
