use Rattle.std.proofs.Common.{ℕ, ◌+◌, ◌<◌, get_or}
use Rattle.e_transfer.specs.GivenGoals.{NoneAt}
use Rattle.e_transfer.proofs.rule_search.search_rules.Given as goal

abbrev pub invariant-loop-pair : goal.invariant-loop-pair
invariant-loop-pair l =
    (i : ℕ) → i < l.pair-index
    → NoneAt l.query.strength l.query.scope l.query.facts.now l.query.goal.now (76 + (get_or l.places i (0, 0)).0) (get_or l.places i (0, 0)).1
