use Rattle.std.proofs.Common.{ℕ, ◌<◌, [], get_or}
use Rattle.e_transfer.specs.GivenGoals.{NoneWithEquations}
use Rattle.e_transfer.proofs.rule_search.search_place.Given as goal

abbrev pub invariant-loop-equations : goal.invariant-loop-equations
invariant-loop-equations l = (k : ℕ) → k < l.equations-index → NoneWithEquations l.query.strength l.query.scope l.query.facts.now l.query.goal.now l.rule l.place (get_or l.equations-items k [])
