use Rattle.std.proofs.Common.{refl, true, set, length, arith, length-set, ap, ◌∙◌}
use Rattle.e_facts.proofs.Items.{fact_at}
use Rattle.e_transfer.proofs.MarkedSums.{one_more_sum, all_sums}
use Rattle.e_transfer.proofs.sum_marks.marks_of_facts.Goals as goal

pub loop-fact-preserved : goal.loop-fact-preserved
loop-fact-preserved c =
    let facts = c.args.facts.now in
    let i = c.loop-fact.fact-index in
    let fact = c.fact-item.result in
    let marks = c.loop-fact.marks in
    record {
      long = length-set marks c.sum_mark_of.result true ∙ c.loop-fact.invariant.long;
      all = one_more_sum facts marks (set marks c.sum_mark_of.result true) i c.sum_mark_of.result fact
          (let e = c.loop-fact.invariant.long in let b = c.sum_mark_of.ensures.below in omega (arith, e, b)) refl c.sum_mark_of.ensures.is
          (fact_at c.items-fact-items.result.now facts i fact c.items-fact-items.ensures c.loop-fact-test.true c.fact-item.is) c.loop-fact.invariant.all;
    }

pub returns-clause-all : goal.returns-clause-all
returns-clause-all c = all_sums c.args.facts.now c.loop-fact.marks c.loop-fact.fact-index (omega (arith, c.loop-fact-test.false, ap length c.items-fact-items.ensures)) c.loop-fact.invariant.all
