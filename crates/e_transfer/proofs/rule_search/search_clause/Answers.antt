use Rattle.std.proofs.Common.{◌≡◌, ℕ, subst}
use Rattle.std.specs.Prelude.{slice_get, IfOk, Some}
use Rattle.e_clause.specs.Table.{table}
use Rattle.e_clause.specs.Views.{row_of}
use Rattle.e_transfer.specs.GivenGoals.{RuleSearchIs, NoneAt}
use Rattle.e_transfer.proofs.rule_search.search_clause.Goals as goal

pub returns-then-not-last_may_hold : goal.returns-then-not-last_may_hold
returns-then-not-last_may_hold c =
    let s = c.args.query.now in
    subst (λ (r : ℕ). NoneAt s.strength s.scope s.facts.now s.goal.now r c.args.place) c.transfer-rule.ensures
    (c.last_may_hold.ensures c.if-not-last_may_hold.true c.transfer-rule.result c.args.place c.table_row-row.ensures)

pub search_place-requires-clause-in_clause : goal.search_place-requires-clause-in_clause
search_place-requires-clause-in_clause c =
    let row = row_of c.table_row-row.result.now in
    c.requires.in_clause row (subst (λ (r : ℕ). slice_get table r ≡ Some row) c.transfer-rule.ensures c.table_row-row.ensures)

pub returns : goal.returns
returns c =
    let s = c.args.query.now in
    subst (λ (r : ℕ). IfOk c.search_place.result (RuleSearchIs s.strength s.scope s.facts.now s.goal.now (NoneAt s.strength s.scope s.facts.now s.goal.now r c.args.place)))
    c.transfer-rule.ensures c.search_place.ensures
