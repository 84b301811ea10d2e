use Rattle.std.proofs.Common.{◌≡◌, ◌++◌, drop}
use Rattle.e_spell.specs.inner.Parts.{values_text}
use Rattle.e_spell.proofs.stops.put_values.Given as goal

abbrev pub invariant-loop-term : goal.invariant-loop-term
invariant-loop-term l = l.out.items ++ values_text l.names (drop l.term-index l.values) ≡ l.initial.out.items ++ values_text l.names l.values
