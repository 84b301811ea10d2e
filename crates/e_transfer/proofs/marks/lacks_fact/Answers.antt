use Rattle.std.proofs.Common.{◌∙◌, arith, ap, get_or, length}
use Rattle.e_transfer.proofs.ClauseMarks.{none_lacking}
use Rattle.e_transfer.proofs.marks.lacks_fact.Goals as goal

pub returns-then-is_lacking : goal.returns-then-is_lacking
returns-then-is_lacking c = λ e.
    let s = c.args.query.now in
    let i = c.loop-needed.needed-index in
    let low = c.requires.in_table in
    let listed = c.marks_needed-marks.ensures in
    let below = c.loop-needed-test.true in
    none_lacking s.strength s.scope s.facts.now s.goal.now c.args.at i c.from.result (omega (arith, low)) (let long = ap length listed in omega (arith, below, long))
    (c.from.ensures ∙ ap (λ ns. get_or ns i 0) listed) (c.is_lacking.ensures c.if-is_lacking.true)
