use Rattle.std.proofs.Common.{ℕ, ◌<◌, below_more, ◌+◌, get_or, length, subst, sym, arith, refl}
use Rattle.e_clause.specs.Instance.{clause_of}
use Rattle.e_transfer.specs.GivenGoals.{NoneAt}
use Rattle.e_transfer.proofs.ClauseMarks.{none_placed, placed_in}
use Rattle.e_transfer.proofs.RuleSearches.{search_nothing}
use Rattle.e_transfer.proofs.rule_search.search_rules.Goals as goal

pub search_clause-requires-clause-in_table : goal.search_clause-requires-clause-in_table
search_clause-requires-clause-in_table c =
    let places = c.places_with-places.result.now in
    let i = c.loop-pair.pair-index in
    let low = (placed_in c.mark_of-goal_mark.result i places (get_or places i (0, 0)) c.places_with-places.ensures c.loop-pair-test.true refl).0 in
    omega (arith, low)

pub search_clause-requires-clause-in_clause : goal.search_clause-requires-clause-in_clause
search_clause-requires-clause-in_clause c =
    let places = c.places_with-places.result.now in
    let i = c.loop-pair.pair-index in
    let below = (placed_in c.mark_of-goal_mark.result i places (get_or places i (0, 0)) c.places_with-places.ensures c.loop-pair-test.true refl).1 in
    λ r at. subst (λ (p : ℕ). p < length (clause_of r)) (sym c.from.ensures) (below r at)

pub loop-pair-preserved : goal.loop-pair-preserved
loop-pair-preserved c =
    let s = c.args.query.now in
    let pair = get_or c.places_with-places.result.now c.loop-pair.pair-index (0, 0) in
    below_more _ _ c.loop-pair.invariant (subst (λ (p : ℕ). NoneAt s.strength s.scope s.facts.now s.goal.now (76 + pair.0) p) c.from.ensures
    (search_nothing s.strength s.scope s.facts.now s.goal.now (NoneAt s.strength s.scope s.facts.now s.goal.now (76 + pair.0) c.from.result)
    c.in_ok-search_clause.field-0 c.in-No.is c.in_ok-search_clause.ensures))

pub returns : goal.returns
returns c =
    let s = c.args.query.now in
    none_placed s.strength s.scope s.facts.now s.goal.now c.mark_of-goal_mark.result c.loop-pair.pair-index c.places_with-places.result.now c.mark_of-goal_mark.ensures.is
    c.places_with-places.ensures c.loop-pair-test.false c.loop-pair.invariant
