use Rattle.std.proofs.Common.{ap, sym, ◌∙◌, refl}
use Rattle.std.specs.Prelude.{Some}
use Rattle.e_literal.specs.declared.literal.Lit.{Lit}
use Rattle.e_clause.specs.Views.{atom_of, row_of}
use Rattle.e_transfer.proofs.BoundFacts.{none_may_be}
use Rattle.e_transfer.proofs.bound_facts.may_hold.Goals as goal

pub returns : goal.returns
returns c = λ e.
    let s = c.args.query.now in
    let k : Lit = record { neg = c.parts-neg.result.1; atom = atom_of c.parts-neg.result.0.now } in
    let here = c.pattern_at-negated.ensures ∙ ap (λ (l : Lit). Some l) c.parts-neg.ensures in
    let fact = c.has_to_be_fact.ensures in
    none_may_be s.strength s.facts.now s.goal.now (row_of c.args.row.now) c.args.es.now c.args.at c.args.goal_mark c.relation_of-relation.result c.mark.result k.neg k k c.known_of_shape-known.result
    here c.relation_of-relation.ensures.is refl here c.known_of_shape-known.ensures (fact.diagram c.if-not-has_to_be_fact.false) (fact.unlike c.if-not-has_to_be_fact.false) c.requires.of_goal c.mark.ensures.is
    (sym c.may_be_fact.ensures ∙ e)
