use Rattle.std.proofs.Common.{◌≡◌, ◌++◌, drop}
use Rattle.std.specs.Prelude.{map}
use Rattle.e_literal.specs.Rename.{with_images, image_in}
use Rattle.e_theorem.proofs.application.all_renamed.Given as goal

abbrev pub invariant-loop-lit : goal.invariant-loop-lit
invariant-loop-lit l = l.with.items ++ map (with_images (image_in l.images)) (drop l.lit-index l.lits) ≡ map (with_images (image_in l.images)) l.lits
