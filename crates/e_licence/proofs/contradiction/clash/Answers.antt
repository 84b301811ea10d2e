use Rattle.std.proofs.Common.{sym, ap, ◌∙◌, subst}
use Rattle.std.specs.List.{list_any}
use Rattle.e_clause.specs.Clash.{clashes_at}
use Rattle.e_facts.proofs.Items.{fact_at, all_taken}
use Rattle.e_licence.specs.inner.Clashes.{IsClashing}
use Rattle.e_licence.proofs.Clashes.{found, none_clashes}
use Rattle.e_licence.proofs.contradiction.clash.Goals as goal

pub returns-then-branch : goal.returns-then-branch
returns-then-branch c =
    let facts = c.args.facts.now in
    let i = c.loop-fact.fact-index in
    let fact = c.fact-item.result in
    let here = fact_at c.items-fact-items.result.now facts i fact c.items-fact-items.ensures c.loop-fact-test.true c.fact-item.is in
    subst (IsClashing facts) (sym c.in_ok-copy.ensures) (found facts i fact here (sym c.in_ok-is_denied.ensures ∙ c.if-branch.true))

pub loop-fact-preserved : goal.loop-fact-preserved
loop-fact-preserved c =
    let facts = c.args.facts.now in
    let i = c.loop-fact.fact-index in
    let fact = c.fact-item.result in
    let here = fact_at c.items-fact-items.result.now facts i fact c.items-fact-items.ensures c.loop-fact-test.true c.fact-item.is in
    none_clashes facts i fact here c.loop-fact.invariant (sym c.in_ok-is_denied.ensures ∙ c.if-branch.false)

pub returns : goal.returns
returns c =
    let facts = c.args.facts.now in
    ap (list_any (clashes_at facts)) (sym (all_taken c.items-fact-items.result.now facts c.loop-fact.fact-index c.items-fact-items.ensures c.loop-fact-test.false)) ∙ c.loop-fact.invariant
