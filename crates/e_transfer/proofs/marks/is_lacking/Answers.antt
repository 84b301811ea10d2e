use Rattle.std.proofs.Common.{◌≡◌, ◌≢◌, ◌<◌, ◌∙◌, sym, inl, inr, ◌⊎◌}
use Rattle.std.proofs.lemmas.Bool.{not-true}
use Rattle.e_transfer.specs.declared.query.Strength.TheVariants as strength
use Rattle.e_transfer.proofs.MarkedFacts.{none_lacking_at}
use Rattle.e_transfer.proofs.marks.is_lacking.Goals as goal
use Rattle.e_transfer.proofs.marks.is_lacking.Goals.{else-needed-via-then-needed+else-not-asks_facts, else-needed-via-else-needed}

pub returns : goal.returns
returns c = λ e l is r at here.
    let s = c.args.query.now in
    let asked : (s.strength ≡ strength.Facts) ⊎ (c.args.needed < 24) = elim c.else-needed.branch [
      | else-needed-via-then-needed+else-not-asks_facts w ↦ inl (w.asks_facts.ensures w.if-not-asks_facts.false)
      | else-needed-via-else-needed w ↦ inr w.if-needed.false
    ] in
    none_lacking_at s.strength s.facts.now s.marks s.goal.now r at c.args.needed l here is (λ same. c.if-needed-goal_turned.false (same ∙ sym c.requires)) asked s.marked (not-true _ e)
