use Rattle.std.proofs.Common.{◌+◌, length, min, ap, ◌∙◌, arith}
use Rattle.e_clause.specs.Assignment.{terms_of_lits}
use Rattle.e_clause.specs.LimitedFacts.{most_terms_of_step}
use Rattle.e_facts.proofs.Items.{fact_at, all_taken}
use Rattle.e_metric.proofs.terms.WellFormedSums.{monomials_more}
use Rattle.e_metric.proofs.limits.capped_monomials.Goals as goal

pub loop-fact-preserved : goal.loop-fact-preserved
loop-fact-preserved c =
    let facts = c.args.facts.now in
    let i = c.loop-fact.fact-index in
    let fact = c.fact-item.result in
    let more = monomials_more facts i fact (fact_at c.items-fact-items.result.now facts i fact c.items-fact-items.ensures c.loop-fact-test.true c.fact-item.is) in
    omega (arith, more, c.monomials.ensures.value, c.min-count.ensures, c.loop-fact.invariant)

pub returns : goal.returns
returns c =
    c.loop-fact.invariant
    ∙ ap (λ ls. min (length (terms_of_lits ls)) (most_terms_of_step + 1)) (all_taken c.items-fact-items.result.now c.args.facts.now c.loop-fact.fact-index c.items-fact-items.ensures c.loop-fact-test.false)
