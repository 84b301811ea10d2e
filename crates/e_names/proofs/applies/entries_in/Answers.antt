use Rattle.std.proofs.Common.{sym, ap, ◌∙◌, List, Option, Ok}
use Rattle.std.proofs.lemmas.List.{append-nil}
use Rattle.std.specs.Slice.Iter.{iter_rest}
use Rattle.std.specs.Iterator.Adapters.{zip_first, zip_second}
use Rattle.std.proofs.lemmas.Slice.Zip.{either_empty_from_Zip}
use Rattle.e_literal.specs.declared.object.Obj.{Obj}
use Rattle.e_line.specs.Reading.{with_front}
use Rattle.e_names.proofs.resolution.Entries.{none_entered}
use Rattle.e_names.proofs.applies.entries_in.Goals as goal

pub returns : goal.returns
returns c =
    let it = c.loop-sort.sort-iterator in
    sym c.loop-sort.invariant ∙ ap (with_front c.loop-sort.found) (none_entered c.args.names.now (iter_rest (zip_first it)) (iter_rest (zip_second it)) (either_empty_from_Zip it c.next.new.self c.next.result c.in-None.is c.next.ensures.steps))
    ∙ ap (λ (l : List (Option Obj)). Ok l) (append-nil c.loop-sort.found)
