use Rattle.std.proofs.Common.{◌∷◌, ◌++◌, map, sym, ap, ◌∙◌}
use Rattle.e_literal.specs.declared.object.Term.TheVariants.{Right}
use Rattle.e_literal.specs.Same.{canonical}
use Rattle.e_clause.specs.Assignment.{terms_of_atom, terms_of_lits}
use Rattle.e_facts.proofs.Items.{fact_at, all_taken}
use Rattle.e_metric.proofs.terms.StepTerms.{fact_terms}
use Rattle.e_metric.proofs.assigning.terms_of_facts.Goals as goal

pub loop-fact-preserved : goal.loop-fact-preserved
loop-fact-preserved c =
    let facts = c.args.facts.now in
    let i = c.loop-fact.fact-index in
    let fact = c.fact-item.result in
    c.in_ok-add_atom.ensures
    ∙ ap (λ ts. ts ++ map canonical (terms_of_atom fact.atom)) c.loop-fact.invariant
    ∙ sym (fact_terms facts i fact (fact_at c.items-fact-items.result.now facts i fact c.items-fact-items.ensures c.loop-fact-test.true c.fact-item.is))

pub returns : goal.returns
returns c =
    c.loop-fact.invariant
    ∙ ap (λ ls. map canonical (Right ∷ terms_of_lits ls)) (all_taken c.items-fact-items.result.now c.args.facts.now c.loop-fact.fact-index c.items-fact-items.ensures c.loop-fact-test.false)
