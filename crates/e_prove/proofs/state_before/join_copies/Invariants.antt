use Rattle.std.proofs.Common.{◌≡◌, drop}
use Rattle.e_literal.specs.Facts.{with_facts}
use Rattle.e_prove.proofs.state_before.join_copies.Given as goal

abbrev pub invariant-loop-lit : goal.invariant-loop-lit
invariant-loop-lit l =
    record {
      scope : l.context.scope ≡ l.initial.context.scope;
      held : l.context.held ≡ l.initial.context.held;
      whole : with_facts l.context.facts (drop l.lit-index l.lits) ≡ with_facts l.initial.context.facts l.lits;
    }
