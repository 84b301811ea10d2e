use Rattle.std.proofs.Common.{◌≡◌, ◌++◌, drop}
use Rattle.std.specs.Prelude.{map}
use Rattle.e_literal.specs.declared.object.Sort.TheVariants.{Point}
use Rattle.e_literal.specs.Rename.{image_in, number_at, mono_at}
use Rattle.e_literal.proofs.renaming.renamed_sum.Given as goal

abbrev pub invariant-loop-m : goal.invariant-loop-m
invariant-loop-m l =
    l.monos.items ++ map (mono_at (number_at (image_in l.map) Point)) (drop l.m-index l.form) ≡ map (mono_at (number_at (image_in l.map) Point)) l.form
