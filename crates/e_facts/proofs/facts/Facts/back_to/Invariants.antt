use Rattle.std.proofs.Common.{◌≡◌, ◌≤◌, take, length}
use Rattle.e_facts.proofs.facts.Facts.back_to.Given as goal

abbrev pub invariant-loop-self : goal.invariant-loop-self
invariant-loop-self l = record { above : l.checkpoint ≤ length l.self; front : take l.checkpoint l.self ≡ take l.checkpoint l.initial.self }

abbrev pub decreases-loop-self : goal.decreases-loop-self
decreases-loop-self l = length l.self
