use Rattle.std.proofs.Common.{◌+◌, drop, subst}
use Rattle.e_clause.specs.declared.cert.RowName.TheVariants.{Fact}
use Rattle.e_clause.specs.System.{rows_named, of_kind}
use Rattle.e_facts.proofs.Items.{fact_at, all_taken, rest_is}
use Rattle.e_literal.specs.WellFormed.{is_well_formed}
use Rattle.e_metric.specs.AgreeingRows.{GrowBy}
use Rattle.e_metric.proofs.terms.FirstTerms.{place_in_all}
use Rattle.e_metric.proofs.rows.SystemRows.{all_at, facts_grow}
use Rattle.e_metric.proofs.systems.add_fact_rows.Goals as goal

pub add_fact_row-requires : goal.add_fact_row-requires
add_fact_row-requires c =
    let facts = c.args.facts.now in
    let i = c.loop-fact.fact-index in
    let fact = c.fact-item.result in
    all_at is_well_formed facts (c.args.from + i) fact c.requires.facts
    (place_in_all facts c.args.from i fact (fact_at _ (drop c.args.from facts) i fact (rest_is c.items.result.now facts c.args.from c.items.ensures) c.loop-fact-test.true c.fact-item.is))

pub loop-fact-preserved : goal.loop-fact-preserved
loop-fact-preserved c =
    let rest = drop c.args.from c.args.facts.now in
    let i = c.loop-fact.fact-index in
    let fact = c.fact-item.result in
    facts_grow c.args.which (λ f. Fact f) rest i fact _ _ _
    (fact_at _ rest i fact (rest_is c.items.result.now c.args.facts.now c.args.from c.items.ensures) c.loop-fact-test.true c.fact-item.is) c.loop-fact.invariant c.in_ok-add_fact_row.ensures

pub returns : goal.returns
returns c =
    subst (λ ls. GrowBy (rows_named (λ f. Fact f) (of_kind c.args.which ls)) c.args.rows.now.items c.loop-fact.rows.items)
    (all_taken _ (drop c.args.from c.args.facts.now) c.loop-fact.fact-index (rest_is c.items.result.now c.args.facts.now c.args.from c.items.ensures) c.loop-fact-test.false) c.loop-fact.invariant
