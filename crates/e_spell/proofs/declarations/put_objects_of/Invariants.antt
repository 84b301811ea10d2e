use Rattle.std.proofs.Common.{◌≡◌, ◌++◌, drop}
use Rattle.e_literal.specs.Scopes.{with_sorts, next_objects}
use Rattle.e_spell.specs.inner.Counts.{AtMostMore, scope_of_counts}
use Rattle.e_spell.specs.inner.Parts.{objects_text, objects_rest}
use Rattle.e_spell.proofs.declarations.put_objects_of.Given as goal

abbrev pub invariant-loop-sort : goal.invariant-loop-sort
invariant-loop-sort l =
    AtMostMore l.fn.before l.counts l.sort-index × (with_sorts (scope_of_counts l.counts) (drop l.sort-index l.sorts) ≡ with_sorts (scope_of_counts l.fn.before) l.sorts)
    × (l.out.items ++ objects_rest l.role l.names l.last (next_objects (scope_of_counts l.counts) (drop l.sort-index l.sorts)) ≡ l.initial.out.items ++ objects_text l.role l.names (next_objects (scope_of_counts l.fn.before) l.sorts))
