use Rattle.std.proofs.Common.{◌≡◌, ◌∙◌, rules, tests}
use Rattle.std.specs.Prelude.{is_some}
use Rattle.std.specs.List.{list_all}
use Rattle.std.proofs.lemmas.Iterator.{YieldsList-from_slice}
use Rattle.std.proofs.lemmas.Iterator.Search.{all_from_yields_List}
use Rattle.e_literal.specs.declared.object.Mono.{Mono}
use Rattle.e_literal.specs.declared.object.Obj.{Obj}
use Rattle.e_literal.specs.Literal.{objects_of_term}
use Rattle.e_literal.specs.Rename.{image_in}
use Rattle.e_literal.proofs.ObjectsOfSums.{all_by_term}
use Rattle.e_literal.proofs.renaming.sum_has_images.Goals as goal

pub returns : goal.returns
returns c =
    let each : c.all.result ≡ list_all (λ (m : Mono). list_all (λ (o : Obj). is_some (image_in c.args.map.now o)) (objects_of_term m.term)) c.args.sum.now =
    all_from_yields_List _ _ _ _ c.all.ensures.ran (YieldsList-from_slice c.args.sum.now cc) (λ x b q k. search (rules, tests)) in
    each ∙ all_by_term (λ (o : Obj). is_some (image_in c.args.map.now o)) c.args.sum.now
