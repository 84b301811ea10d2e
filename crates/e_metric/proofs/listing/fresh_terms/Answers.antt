use Rattle.std.proofs.Common.{◌∷◌, [], ap, ◌∙◌}
use Rattle.e_clause.specs.Assignment.{terms_of_lits}
use Rattle.e_clause.specs.System.{of_kind}
use Rattle.e_metric.specs.ListedTerms.{with_listed}
use Rattle.e_metric.proofs.rows.GoalRows.{last_after}
use Rattle.e_metric.proofs.listing.fresh_terms.Goals as goal

pub returns : goal.returns
returns c =
    c.in_ok-fresh.ensures.items
    ∙ last_after c.args.which c.args.terms.now (c.args.lit.now ∷ []) c.deref.result.now
    (c.deref.ensures.value ∙ c.in_ok-add_literal.ensures ∙ ap (λ ts. with_listed ts (terms_of_lits (of_kind c.args.which (c.args.lit.now ∷ [])))) c.in_ok-all.ensures)
