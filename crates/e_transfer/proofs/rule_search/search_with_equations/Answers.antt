use Rattle.std.proofs.Common.{◌+◌}
use Rattle.std.proofs.lemmas.Result.{IfOk-weaker}
use Rattle.e_transfer.specs.GivenGoals.{RuleSearchIs, NoneWithBindings, NoneWithEquations}
use Rattle.e_transfer.proofs.RuleSearches.{none_bound, none_unbound, search_weaker, bindings_some, bindings_none}
use Rattle.e_transfer.proofs.rule_search.search_with_equations.Goals as goal

pub returns-in-Some : goal.returns-in-Some
returns-in-Some c =
    let s = c.args.query.now in
    let row = c.args.row.now in
    let tied = NoneWithBindings s.strength s.scope s.facts.now s.goal.now c.args.rule c.args.place c.items.result.now in
    let bound = NoneWithEquations s.strength s.scope s.facts.now s.goal.now c.args.rule c.args.place c.args.equations.now in
    let are = bindings_some (row.points + row.lines + row.circles) c.args.equations.now c.in_ok-bindings.field-0 c.in-Some.bindings c.items.result.now c.in-Some.is c.items.ensures c.in_ok-bindings.ensures in
    let weaker = none_bound s.strength s.scope s.facts.now s.goal.now c.args.rule c.args.place c.args.equations.now c.items.result.now are in
    IfOk-weaker c.search_with_bindings.result (RuleSearchIs s.strength s.scope s.facts.now s.goal.now tied) (RuleSearchIs s.strength s.scope s.facts.now s.goal.now bound)
    (search_weaker s.strength s.scope s.facts.now s.goal.now tied bound weaker) c.search_with_bindings.ensures

pub returns-in-None : goal.returns-in-None
returns-in-None c =
    let s = c.args.query.now in
    let row = c.args.row.now in
    none_unbound s.strength s.scope s.facts.now s.goal.now c.args.rule c.args.place c.args.equations.now
    (bindings_none (row.points + row.lines + row.circles) c.args.equations.now c.in_ok-bindings.field-0 c.in-None.is c.in_ok-bindings.ensures)
