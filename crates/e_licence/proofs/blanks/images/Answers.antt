use Rattle.std.proofs.Common.{◌≡◌, ◌++◌, List, length, map, refl, sym, ap, ◌∙◌, subst, rules, append-nil}
use Rattle.std.specs.Prelude.{min}
use Rattle.std.proofs.lemmas.Slice.Zip.{zip_end}
use Rattle.e_literal.specs.declared.map.Entry.{Entry}
use Rattle.e_literal.specs.Rename.{pairs_of}
use Rattle.e_licence.specs.inner.BlankChoices.{filled_arguments}
use Rattle.e_licence.proofs.BlankChoices.{images_done, one_sort, pairs_sorts}
use Rattle.e_licence.proofs.blanks.images.Goals as goal

pub of_entries-requires : goal.of_entries-requires
of_entries-requires c =
    let args = filled_arguments c.args.scope c.args.declared.now c.args.pattern.now c.args.part.now in
    let done : length c.loop-object.yielded ≡ min (length c.args.declared.now) (length c.args.pattern.now) =
    zip_end c.args.declared.now c.args.pattern.now c.loop-object.yielded c.into_iter-object-iterator.result c.loop-object.object-iterator c.next.new.self c.next.result (search rules) (search rules)
    c.loop-object.yielded_by c.in-None.is c.next.ensures.steps in
    let is : c.loop-object.entries.items ≡ pairs_of c.args.declared.now args =
    sym (append-nil c.loop-object.entries.items)
    ∙ ap (λ (es : List Entry). c.loop-object.entries.items ++ es) (sym (images_done c.args.scope c.args.declared.now c.args.pattern.now c.loop-object.rest.now (length c.loop-object.yielded) done))
    ∙ c.loop-object.invariant in
    record {
      one_sort = subst (λ (es : List Entry). map (λ (e : Entry). e.source.sort) es ≡ map (λ (e : Entry). e.target.sort) es) (sym is)
          (pairs_sorts c.args.declared.now args
          (one_sort c.args.scope c.args.scope c.args.declared.now args c.args.statement.now.declared c.args.pattern.now c.args.part.now c.requires.declares refl c.requires.fits));
    }
