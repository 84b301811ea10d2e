use Rattle.std.proofs.Common.{◌∙◌, ap}
use Rattle.e_clause.specs.Assignment.{terms_of_lits}
use Rattle.e_clause.specs.System.{of_kind}
use Rattle.e_metric.specs.ListedTerms.{with_listed}
use Rattle.e_metric.proofs.listing.terms_of_facts.Goals as goal

pub returns : goal.returns
returns c =
    c.in_ok-add_facts.ensures ∙ ap (λ ts. with_listed ts (terms_of_lits (of_kind c.args.which c.args.facts.now))) c.in_ok-terms.ensures.items
