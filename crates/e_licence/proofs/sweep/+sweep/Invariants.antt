use Rattle.std.proofs.Common.{length, ◌≡◌, ◌≤◌, get_or}
use Rattle.e_transfer.proofs.Choices.{none_span}
use Rattle.e_licence.proofs.SweptChoices.{FoundUnder}
use Rattle.e_licence.proofs.sweep.+sweep.Given as goal

abbrev pub decreases-sweep : goal.decreases-sweep
decreases-sweep g l = length l.spans.now

abbrev pub invariant-loop-value : goal.invariant-loop-value
invariant-loop-value g l =
    (l.chosen.items ≡ l.initial.chosen.items)
    × FoundUnder (g.T.Task.kept l.task) (g.T.Task.wanted l.task) l.initial.chosen.items (get_or l.spans 0 none_span) l.rest l.value l.initial.found l.found
    × (length l.found ≤ l.most)
    × g.T.Task.right l.task l.memory
