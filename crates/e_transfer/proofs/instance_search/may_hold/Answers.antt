use Rattle.std.proofs.Common.{subst, sym, ap, ◌∙◌}
use Rattle.e_literal.specs.declared.literal.Lit.{Lit}
use Rattle.e_literal.specs.Same.{same_lit}
use Rattle.e_literal.specs.Literal.{negation}
use Rattle.e_transfer.specs.GivenGoals.{Suffices}
use Rattle.e_transfer.proofs.SearchedPlaces.{unfit, unfit_here, differs_twice}
use Rattle.e_transfer.proofs.instance_search.may_hold.Goals as goal

pub returns-then-here : goal.returns-then-here
returns-then-here c = λ e.
    let s = c.args.query.now in
    unfit_here s.strength s.facts.now s.goal.now c.args.lit c.args.here
    (differs_twice c.args.lit c.negate-need.result s.goal.now c.negate-need.ensures (sym c.is_negated_goal.ensures ∙ e)) c.if-here.true

pub returns : goal.returns
returns c = λ e.
    let s = c.args.query.now in
    unfit s.strength s.facts.now s.goal.now c.args.lit c.args.here
    (differs_twice c.args.lit c.negate-need.result s.goal.now c.negate-need.ensures (sym c.is_negated_goal-2.ensures ∙ e))
    (λ elsewhere enough. c.may_suffice.ensures c.if-may_suffice.false (subst (Suffices s.strength s.facts.now) (sym c.negate-need.ensures) enough))
