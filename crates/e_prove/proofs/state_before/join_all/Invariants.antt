use Rattle.std.proofs.Common.{◌≡◌}
use Rattle.e_literal.specs.Facts.{with_facts}
use Rattle.e_prove.proofs.state_before.join_all.Given as goal

abbrev pub invariant-loop-lit : goal.invariant-loop-lit
invariant-loop-lit l =
    record {
      scope : l.context.scope ≡ l.initial.context.scope;
      held : l.context.held ≡ l.initial.context.held;
      whole : with_facts l.context.facts l.lit-iterator.rest.items ≡ with_facts l.initial.context.facts l.fn.lits.items;
    }
