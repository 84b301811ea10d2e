use Rattle.std.proofs.Common.{◌≡◌, false, take}
use Rattle.std.specs.List.{list_any}
use Rattle.e_clause.specs.Clash.{clashes_at}
use Rattle.e_licence.proofs.contradiction.clash.Given as goal

-- none of the facts so far clashes
abbrev pub invariant-loop-fact : goal.invariant-loop-fact
invariant-loop-fact l = list_any (clashes_at l.facts) (take l.fact-index l.facts) ≡ false
