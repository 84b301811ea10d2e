use Rattle.std.proofs.Common.{ap, ◌∙◌, sym}
use Rattle.std.specs.Prelude.{is_some}
use Rattle.std.proofs.lemmas.Bool.{not-false}
use Rattle.e_transfer.proofs.MarkedFacts.{sufficient_follows}
use Rattle.e_transfer.proofs.instance_search.may_suffice.Goals as goal

pub returns : goal.returns
returns c = λ e enough.
    let s = c.args.query.now in
    c.is_refuted.ensures (not-false c.is_refuted.result e)
    (sufficient_follows s.strength s.facts.now c.args.need.now (ap is_some (sym c.kind.ensures) ∙ c.if-is_none.ensures) enough)
