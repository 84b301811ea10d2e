use Rattle.std.proofs.Common.{◌≡◌, OnOk, [], ◌∷◌, sym, ◌∙◌, subst}
use Rattle.e_facts.proofs.Items.{fact_at}
use Rattle.e_clause.specs.Assignment.{lit_has_term}
use Rattle.e_trim.specs.Looked.{both, wanted_lits}
use Rattle.e_trim.proofs.walks.LookedUp.{first_yes, first_no}
use Rattle.e_trim.proofs.looked.look_up_written.Goals as goal

pub returns-then-lit_has_term : goal.returns-then-lit_has_term
returns-then-lit_has_term c =
    let facts = c.args.facts.now in
    let i = c.loop-fact.fact-index in
    let fact = c.fact-item.result in
    let here = fact_at c.items-fact-items.result.now facts i fact c.items-fact-items.ensures c.loop-fact-test.true c.fact-item.is in
    let first = sym (first_yes (lit_has_term c.args.term) facts i fact here (sym c.lit_has_term.ensures ∙ c.if-lit_has_term.true)) ∙ c.loop-fact.invariant.first in
    subst (λ ls. OnOk c.look_up.result (c.look_up.new.self ≡ both c.args.out.now (wanted_lits ls))) first
    (subst (λ w. OnOk c.look_up.result (c.look_up.new.self ≡ both w (wanted_lits (fact ∷ [])))) c.loop-fact.invariant.same c.look_up.ensures)

pub loop-fact-preserved : goal.loop-fact-preserved
loop-fact-preserved c =
    let facts = c.args.facts.now in
    let i = c.loop-fact.fact-index in
    let fact = c.fact-item.result in
    let here = fact_at c.items-fact-items.result.now facts i fact c.items-fact-items.ensures c.loop-fact-test.true c.fact-item.is in
    record {
      first = first_no (lit_has_term c.args.term) facts i fact here (sym c.lit_has_term.ensures ∙ c.if-lit_has_term.false) ∙ c.loop-fact.invariant.first;
      same = c.loop-fact.invariant.same;
    }
