use Rattle.std.proofs.Common.{sym, ap, ◌∙◌, ◌≡◌, subst, false}
use Rattle.std.specs.List.{list_any}
use Rattle.std.proofs.lemmas.Bool.{not-true}
use Rattle.e_transfer.specs.inner.BoundFacts.{fits}
use Rattle.e_transfer.specs.inner.Candidates.{known_numbers}
use Rattle.e_transfer.proofs.NextNumbers.{Known, never_there}
use Rattle.e_transfer.proofs.candidates.is_unlisted.Goals as goal

pub returns : goal.returns
returns c = λ e.
    let n = c.args.numbers.now in
    let points = c.args.points.now in
    let known = c.known_numbers.ensures ∙ ap (known_numbers n.positions.now n.part.now) c.variables_of_term.ensures in
    never_there n c.args.term points (subst (λ (k : Known). list_any (fits k) points ≡ false) known (sym c.is_any.ensures ∙ not-true c.is_any.result e))
