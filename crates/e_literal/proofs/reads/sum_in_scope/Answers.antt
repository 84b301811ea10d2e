use Rattle.std.proofs.Common.{◌≡◌, ◌∙◌, rules, tests}
use Rattle.std.specs.List.{list_all}
use Rattle.std.proofs.lemmas.Iterator.{YieldsList-from_slice}
use Rattle.std.proofs.lemmas.Iterator.Search.{all_from_yields_List}
use Rattle.e_literal.specs.declared.object.Mono.{Mono}
use Rattle.e_literal.specs.Literal.{is_in_scope, objects_of_term}
use Rattle.e_literal.proofs.ObjectsOfSums.{all_by_term}
use Rattle.e_literal.proofs.reads.sum_in_scope.Goals as goal

pub returns : goal.returns
returns c =
    let each : c.all.result ≡ list_all (λ (m : Mono). list_all (is_in_scope c.args.scope) (objects_of_term m.term)) c.args.sum.now =
    all_from_yields_List _ _ _ _ c.all.ensures.ran (YieldsList-from_slice c.args.sum.now cc) (λ x b q k. search (rules, tests)) in
    each ∙ all_by_term (is_in_scope c.args.scope) c.args.sum.now
