use Rattle.std.proofs.Common.{◌<◌, refl, true, set, length, arith}
use Rattle.e_transfer.proofs.MarkedSums.{still_marked, newly_marked}
use Rattle.e_transfer.proofs.sum_marks.sum_marks_of.Goals as goal

pub returns-clause-facts : goal.returns-clause-facts
returns-clause-facts c =
    let marks = c.marks_of_facts-marks.result in
    let less : c.sum_mark_of.result < length marks = (let e = c.marks_of_facts-marks.ensures.long in let b = c.sum_mark_of.ensures.below in omega (arith, e, b)) in
    still_marked marks c.sum_mark_of.result c.args.facts.now less c.marks_of_facts-marks.ensures.all

pub returns-clause-goal : goal.returns-clause-goal
returns-clause-goal c =
    let marks = c.marks_of_facts-marks.result in
    let less : c.sum_mark_of.result < length marks = (let e = c.marks_of_facts-marks.ensures.long in let b = c.sum_mark_of.ensures.below in omega (arith, e, b)) in
    newly_marked marks (set marks c.sum_mark_of.result true) c.sum_mark_of.result c.args.goal.now less refl c.sum_mark_of.ensures.is
