use Rattle.std.proofs.Common.{◌∙◌, rules, tests}
use Rattle.std.proofs.lemmas.Iterator.Adapters.{YieldsList-from_rev_slice}
use Rattle.std.proofs.lemmas.Iterator.Search.{any_from_yields_List}
use Rattle.e_literal.specs.Same.{same_lit}
use Rattle.e_verify.proofs.comparing.ReversedLists.{any_from_back}
use Rattle.e_verify.proofs.facts.has_same.Goals as goal

pub returns : goal.returns
returns c =
    any_from_yields_List (λ f. same_lit f c.args.lit.now) _ _ _ c.any.ensures.ran (YieldsList-from_rev_slice c.args.facts.now (cc)) (λ x b q k. search (rules, tests))
    ∙ any_from_back (λ f. same_lit f c.args.lit.now) c.args.facts.now
