use Rattle.std.proofs.Common.{rules, tests}
use Rattle.std.proofs.lemmas.Iterator.{YieldsList-from_slice}
use Rattle.std.proofs.lemmas.Iterator.Search.{position_from_yields_List}
use Rattle.e_literal.specs.Same.{same_lit}
use Rattle.e_verify.proofs.facts.Facts.place_of.Goals as goal

pub returns : goal.returns
returns c =
    position_from_yields_List (λ f. same_lit f c.args.lit.now) _ _ _ c.position.ensures.ran (YieldsList-from_slice c.args.self.now (cc)) (λ x b q k. search (rules, tests))
