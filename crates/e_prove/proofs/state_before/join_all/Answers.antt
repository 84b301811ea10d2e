use Rattle.std.proofs.Common.{sym, ap, ◌∙◌}
use Rattle.e_literal.specs.Facts.{with_facts}
use Rattle.e_prove.proofs.NextStates.{good_left}
use Rattle.e_prove.proofs.state_before.join_all.Goals as goal

pub add-requires : goal.add-requires
add-requires c =
    good_left c.args.context.now c.loop-lit.context c.args.lits.items c.loop-lit.lit-iterator.rest.items c.in-Some.lit c.next.new.self.rest.items
    c.loop-lit.invariant.scope c.loop-lit.invariant.whole c.in-Some.ensures.steps.0 c.requires

pub loop-lit-preserved : goal.loop-lit-preserved
loop-lit-preserved c =
    record {
      scope = ap (λ x. x.scope) c.in_ok-add.ensures.joined ∙ c.loop-lit.invariant.scope;
      held = ap (λ x. x.held) c.in_ok-add.ensures.joined ∙ c.loop-lit.invariant.held;
      whole =
          ap (λ x. with_facts x.facts c.next.new.self.rest.items) c.in_ok-add.ensures.joined
          ∙ ap (with_facts c.loop-lit.context.facts) (sym c.in-Some.ensures.steps.0) ∙ c.loop-lit.invariant.whole;
    }
