use Rattle.std.proofs.Common.{rules, tests}
use Rattle.std.proofs.lemmas.Iterator.{YieldsList-from_slice}
use Rattle.std.proofs.lemmas.Iterator.Search.{all_from_yields_List}
use Rattle.e_literal.specs.WellFormed.{is_well_formed}
use Rattle.e_metric.proofs.limits.are_well_formed.Goals as goal

pub returns : goal.returns
returns c =
    all_from_yields_List is_well_formed _ _ _ c.all.ensures.ran (YieldsList-from_slice c.args.facts.now cc) (λ x b q k. search (rules, tests))
