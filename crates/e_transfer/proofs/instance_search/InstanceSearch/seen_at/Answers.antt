use Rattle.std.proofs.Common.{◌≡◌, ◌≢◌, ◌<◌, ap, ◌∙◌, sym, subst, get_or, [], arith, ℕ, List, Some, not, length, true}
use Rattle.std.specs.Prelude.{slice_get}
use Rattle.std.specs.List.{list_any}
use Rattle.std.proofs.lemmas.List.{get_or_read}
use Rattle.std.proofs.lemmas.Option.{same_Some}
use Rattle.e_literal.specs.declared.literal.Lit.{Lit}
use Rattle.e_clause.specs.Views.{row_of}
use Rattle.e_transfer.specs.Listings.{numbers_with}
use Rattle.e_transfer.specs.Marks.{relation_number, mark_number}
use Rattle.e_transfer.specs.inner.BoundFacts.{fits}
use Rattle.e_transfer.specs.inner.Candidates.{variables_of_atom, known_numbers, is_next, option_at, AreSeen}
use Rattle.e_transfer.proofs.Listings.{some_fit}
use Rattle.e_transfer.proofs.NextNumbers.{Known, unseen}
use Rattle.e_transfer.proofs.instance_search.InstanceSearch.seen_at.Goals as goal

pub index-requires : goal.index-requires
index-requires c =
    let long = c.args.self.now.query.listed.long in
    let low = c.mark.ensures.below in
    omega (arith, long, low)

pub returns : goal.returns
returns c =
    let s = c.args.self.now in
    let n = c.args.numbers.now in
    let r = row_of n.row.now in
    let facts = s.query.facts.now in
    let listing = s.query.listing.now.items in
    let listed = s.query.listed in
    let at = c.relation_at-relation.ensures.is in
    let l : Lit = at.0 in
    let there = c.variables_at-variables.ensures in
    let vs : c.variables_at-variables.result ≡ variables_of_atom r l.atom = there.2 ∙ ap (λ (k : Lit). variables_of_atom r k.atom) (same_Some there.0 l (sym there.1 ∙ at.1)) in
    let fact = c.has_to_be_fact.ensures in
    let marked : c.mark.result ≡ mark_number (relation_number l.atom) (not l.neg) =
    c.mark.ensures.is ∙ ap (λ k. mark_number k (not c.relation_at-relation.result.1)) at.2 ∙ ap (λ b. mark_number (relation_number l.atom) (not b)) at.3 in
    let one : mark_number c.relation_at-relation.result.0 c.relation_at-relation.result.1 ≡ mark_number (relation_number l.atom) l.neg =
    ap (λ k. mark_number k c.relation_at-relation.result.1) at.2 ∙ ap (mark_number (relation_number l.atom)) at.3 in
    let long = listed.long in
    let low = c.mark.ensures.below in
    let read : c.index.result.now ≡ get_or listing c.mark.result [] = get_or_read listing c.mark.result c.index.result.now (omega (arith, long, low)) c.index.ensures [] in
    let triples : c.items-triples.result.now ≡ numbers_with (mark_number (relation_number l.atom) (not l.neg)) facts =
    c.items-triples.ensures ∙ read ∙ listed.at c.mark.result low ∙ ap (λ k. numbers_with k facts) marked in
    let positions : n.positions.now ≡ s.plan.now.positions.items = c.requires.places in
    let known : c.known_numbers-known.result ≡ known_numbers s.plan.now.positions.items n.part.now (variables_of_atom r l.atom) =
    c.known_numbers-known.ensures ∙ ap (λ (ps : List ℕ). known_numbers ps n.part.now c.variables_at-variables.result) positions ∙ ap (known_numbers s.plan.now.positions.items n.part.now) vs in
    unseen s.query.strength s.query.scope facts s.query.goal.now s.rule s.place s.plan.now r n.part.now c.args.j l c.in_ok-place.place c.items-triples.result.now c.seen_numbers.result c.requires.of_table
    at.1 (let low12 = fact.diagram c.if-not-has_to_be_fact.false in let e = at.2 in omega (arith, low12, e))
    (λ e. fact.unlike c.if-not-has_to_be_fact.false (one ∙ e ∙ sym c.requires.of_goal))
    (ap (λ (ps : List ℕ). is_next ps n.part.now (option_at c.in_ok-place.place (variables_of_atom r l.atom))) (sym positions)
    ∙ ap (λ v. is_next n.positions.now n.part.now (option_at c.in_ok-place.place v)) (sym vs) ∙ c.in_ok-place.ensures)
    (λ (k : Known). ap (list_any (fits k)) triples ∙ some_fit (mark_number (relation_number l.atom) (not l.neg)) k facts)
    (subst (λ (k : Known). AreSeen k c.in_ok-place.place c.items-triples.result.now c.seen_numbers.result) known c.seen_numbers.ensures)
