use Rattle.std.proofs.Common.{[], length, ap, arith}
use Rattle.e_facts.proofs.Items.{fact_at}
use Rattle.e_transfer.proofs.FreeAreas.{also_next_fact, all_facts_listed}
use Rattle.e_transfer.proofs.areas.areas_of.Goals as goal

pub loop-fact-preserved : goal.loop-fact-preserved
loop-fact-preserved c =
    let facts = c.args.facts.now in
    let i = c.loop-fact.fact-index in
    let fact = c.fact-item.result in
    also_next_fact facts i fact [] c.loop-fact.areas.items c.add_areas.new.areas.items
    (fact_at c.items-fact-items.result.now facts i fact c.items-fact-items.ensures c.loop-fact-test.true c.fact-item.is) c.loop-fact.invariant c.in_ok-add_areas.ensures

pub returns : goal.returns
returns c =
    all_facts_listed c.args.facts.now c.loop-fact.fact-index c.loop-fact.areas.items (omega (arith, c.loop-fact-test.false, ap length c.items-fact-items.ensures)) c.loop-fact.invariant
