use Rattle.std.proofs.Common.{◌≡◌, ◌++◌, filter, drop, []}
use Rattle.e_literal.specs.Facts.{has}
use Rattle.e_literal.specs.Literal.{is_in_scope}
use Rattle.e_trim.proofs.wanted.Wanted.outside.Given as goal

abbrev pub invariant-loop-lit : goal.invariant-loop-lit
invariant-loop-lit l = record {
  lits : l.outer-inside.lits.items ++ filter (has l.state.facts) l.lit-iterator.rest.items ≡ filter (has l.state.facts) l.fn.self.lits;
  objects : l.outer-inside.objects.items ≡ [];
}

abbrev pub invariant-loop-object : goal.invariant-loop-object
invariant-loop-object l = record {
  lits : l.outer-inside.lits.items ≡ filter (has l.state.facts) l.fn.self.lits;
  objects : l.outer-inside.objects.items ++ filter (is_in_scope l.state.scope) (drop l.object-index l.object-items) ≡ filter (is_in_scope l.state.scope) l.fn.self.objects;
}
