use Rattle.std.proofs.Common.{rules, tests}
use Rattle.std.proofs.lemmas.Iterator.{YieldsList-from_slice}
use Rattle.std.proofs.lemmas.Iterator.Search.{all_from_yields_List}
use Rattle.e_literal.specs.Literal.{all_in_scope}
use Rattle.e_transfer.proofs.conditions.are_in_scope.Goals as goal

pub returns : goal.returns
returns c =
    all_from_yields_List (all_in_scope c.args.scope) _ _ _ c.all.ensures.ran (YieldsList-from_slice c.args.facts.now cc) (λ x b q k. search (rules, tests))
