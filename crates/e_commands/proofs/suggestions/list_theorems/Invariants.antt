use Rattle.e_licence.specs.Verdicts.{AreRight}
use Rattle.e_commands.specs.inner.Suggesting.{AreListedTo}
use Rattle.e_commands.proofs.suggestions.list_theorems.Given as goal

abbrev pub invariant-loop-at : goal.invariant-loop-at
invariant-loop-at l = AreListedTo l.state.names l.state.context.scope l.state.context.facts l.known l.at l.out.items l.count
    × AreRight l.state.context l.memory
