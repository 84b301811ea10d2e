use Rattle.std.proofs.Common.{◌≡◌, drop}
use Rattle.e_literal.specs.Rename.{image_in}
use Rattle.e_literal.proofs.map.image_among.Given as goal

abbrev pub invariant-loop-entry : goal.invariant-loop-entry
invariant-loop-entry l = image_in (drop l.entry-index l.entries) l.object ≡ image_in l.entries l.object
