use Rattle.std.proofs.Common.{◌<◌, sym, ◌∙◌, subst, length, arith}
use Rattle.e_transfer.specs.Areas.{IsFree}
use Rattle.e_transfer.specs.inner.PartsOfChoices.{term_last}
use Rattle.e_transfer.proofs.FreeAreas.{free_never_differ}
use Rattle.e_transfer.proofs.instance_search.never_differ.Goals as goal

pub returns : goal.returns
returns c = λ e.
    let n = c.args.numbers.now in
    let facts = c.args.query.now.facts.now in
    let last = c.is_last.ensures c.if-not-is_last.false in
    let less : term_last n.positions.now c.args.term < length n.part.now = omega (arith, last, c.last_of_term.ensures) in
    free_never_differ facts n c.args.term c.args.other (sym c.is_area-second.ensures ∙ c.if-not-second.false) less (subst (IsFree facts) c.term.ensures (c.is_free.ensures e))
