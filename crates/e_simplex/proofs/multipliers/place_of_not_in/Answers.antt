use Rattle.std.proofs.Common.{◌+◌, ◌<◌, arith, refl, ◌∙◌, length, length-append}
use Rattle.e_fraction.specs.Views.{views_of_rows}
use Rattle.e_simplex.proofs.verdicts.RowMultipliers.{nots_append, is_not_here, not_before, not_after, nots_before, nots_after}
use Rattle.e_simplex.proofs.verdicts.Refuting.{length_seen}
use Rattle.e_simplex.proofs.multipliers.place_of_not_in.Goals as goal

pub place_of_not-requires-else-k-count-clause-here : goal.place_of_not-requires-else-k-count-clause-here
place_of_not-requires-else-k-count-clause-here c =
    omega (arith, c.requires.here, nots_append c.args.rows.now c.args.more.now, c.nots_among-count.ensures, c.if-k-count.false)

pub overflow_add-result : goal.overflow_add-result
overflow_add-result c =
    let here : c.place_of_not-else-k-count.result < length (views_of_rows c.args.more.now) = is_not_here (views_of_rows c.args.more.now) c.place_of_not-else-k-count.result c.place_of_not-else-k-count.ensures.is_not in
    omega (arith, here, length_seen c.args.more.now, length-append c.args.rows.now c.args.more.now, c.requires.few)

pub returns-then-k-count-clause-is_not : goal.returns-then-k-count-clause-is_not
returns-then-k-count-clause-is_not c = not_before c.args.rows.now c.args.more.now c.place_of_not.result c.place_of_not.ensures.is_not

pub returns-then-k-count-clause-before : goal.returns-then-k-count-clause-before
returns-then-k-count-clause-before c =
    let here : c.place_of_not.result < length (views_of_rows c.args.rows.now) = is_not_here (views_of_rows c.args.rows.now) c.place_of_not.result c.place_of_not.ensures.is_not in
    nots_before c.args.rows.now c.args.more.now c.place_of_not.result (omega (arith, here, length_seen c.args.rows.now)) ∙ c.place_of_not.ensures.before

pub returns-else-k-count-clause-is_not : goal.returns-else-k-count-clause-is_not
returns-else-k-count-clause-is_not c =
    not_after c.args.rows.now c.args.more.now (length c.args.rows.now + c.place_of_not-else-k-count.result) c.place_of_not-else-k-count.result refl c.place_of_not-else-k-count.ensures.is_not

pub returns-else-k-count-clause-before : goal.returns-else-k-count-clause-before
returns-else-k-count-clause-before c =
    omega (
      arith,
      nots_after c.args.rows.now c.args.more.now (length c.args.rows.now + c.place_of_not-else-k-count.result) c.place_of_not-else-k-count.result refl,
      c.place_of_not-else-k-count.ensures.before,
      c.nots_among-count.ensures,
      c.if-k-count.false,
    )
