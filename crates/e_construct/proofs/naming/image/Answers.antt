use Rattle.std.proofs.Common.{sym, ◌∙◌}
use Rattle.std.specs.Slice.Iter.{iter_rest}
use Rattle.std.specs.Iterator.Adapters.{zip_first, zip_second}
use Rattle.std.proofs.lemmas.Slice.Zip.{either_empty_from_Zip}
use Rattle.e_construct.proofs.Images.{no_image}
use Rattle.e_construct.proofs.naming.image.Goals as goal

pub returns : goal.returns
returns c =
    let it = c.loop-name.name-iterator in
    sym (no_image (iter_rest (zip_first it)) (iter_rest (zip_second it)) c.args.letter (either_empty_from_Zip it c.next.new.self c.next.result c.in-None.is c.next.ensures.steps)) ∙ c.loop-name.invariant
