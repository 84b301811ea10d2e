use Rattle.std.proofs.Common.{length, ◌≡◌, ℕ, List, [], ◌∷◌, ◌++◌, ◌<◌, ◌≤◌, get_or}
use Rattle.e_transfer.proofs.Choices.{none_span}
use Rattle.e_transfer.specs.Choice.{FitsSpans}
use Rattle.e_transfer.proofs.walk.+search.Given as goal

abbrev pub decreases-search : goal.decreases-search
decreases-search g l = length l.spans.now

abbrev pub invariant-loop-value : goal.invariant-loop-value
invariant-loop-value g l =
    (l.chosen.items ≡ l.initial.chosen.items)
    × ((u : ℕ) → (get_or l.spans 0 none_span).from ≤ u → u < l.value → (d : List ℕ) → FitsSpans l.rest d → g.T.Task.wanted l.task ((l.initial.chosen.items ++ u ∷ []) ++ d) → ⊥)
    × g.T.Task.right l.task l.memory
