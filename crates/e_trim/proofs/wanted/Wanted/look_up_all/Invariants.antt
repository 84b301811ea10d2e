use Rattle.std.proofs.Common.{◌≡◌, ◌++◌}
use Rattle.e_trim.proofs.wanted.Wanted.look_up_all.Given as goal

abbrev pub invariant-loop-lit : goal.invariant-loop-lit
invariant-loop-lit l = record {
  lits : l.self-inside.lits.items ++ l.lit-iterator.rest.items ≡ l.initial.self-inside.lits.items ++ l.fn.lits.items;
  objects : l.self-inside.objects.items ≡ l.initial.self-inside.objects.items;
}
