use Rattle.std.proofs.Common.{sym, ap, ◌∙◌, true≢false, inr}
use Rattle.e_literal.specs.Facts.{has}
use Rattle.e_literal.specs.Literal.{negation}
use Rattle.e_transfer.proofs.MarkedFacts.{fact_of}
use Rattle.e_transfer.proofs.SearchedPlaces.{unfit, unfit_here}
use Rattle.e_transfer.proofs.instance_search.diagram_may_hold.Goals as goal

pub returns-then-here : goal.returns-then-here
returns-then-here c = λ e.
    let s = c.args.query.now in
    unfit_here s.strength s.facts.now s.goal.now c.args.lit c.args.here (sym c.same.ensures ∙ c.if-same.false) c.if-here.true

pub returns : goal.returns
returns c = λ e.
    let s = c.args.query.now in
    unfit s.strength s.facts.now s.goal.now c.args.lit c.args.here (sym c.same.ensures ∙ c.if-same.false)
    (λ elsewhere enough. true≢false
    (sym (fact_of s.strength s.facts.now (negation c.args.lit) (inr c.requires) enough) ∙ ap (has s.facts.now) (sym c.negate-need.ensures) ∙ sym c.has-holds.ensures ∙ e))
