use Rattle.std.proofs.Common.{drop, ap, ◌∙◌}
use Rattle.e_clause.specs.Assignment.{terms_of_lits}
use Rattle.e_clause.specs.System.{of_kind}
use Rattle.e_facts.proofs.Items.{fact_at, all_taken, rest_is}
use Rattle.e_metric.specs.ListedTerms.{with_listed}
use Rattle.e_metric.proofs.terms.FirstTerms.{more_terms}
use Rattle.e_metric.proofs.listing.add_facts.Goals as goal

pub loop-fact-preserved : goal.loop-fact-preserved
loop-fact-preserved c =
    let rest = drop c.args.from c.args.facts.now in
    let i = c.loop-fact.fact-index in
    let fact = c.fact-item.result in
    more_terms c.args.which rest i fact c.args.terms.now.items _ _
    (fact_at _ rest i fact (rest_is c.items.result.now c.args.facts.now c.args.from c.items.ensures) c.loop-fact-test.true c.fact-item.is) c.loop-fact.invariant c.in_ok-add_literal.ensures

pub returns : goal.returns
returns c =
    c.loop-fact.invariant
    ∙ ap (λ ls. with_listed c.args.terms.now.items (terms_of_lits (of_kind c.args.which ls)))
    (all_taken _ (drop c.args.from c.args.facts.now) c.loop-fact.fact-index (rest_is c.items.result.now c.args.facts.now c.args.from c.items.ensures) c.loop-fact-test.false)
