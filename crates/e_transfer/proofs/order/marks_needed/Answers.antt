use Rattle.std.proofs.Common.{[], arith}
use Rattle.std.proofs.lemmas.List.{get_or_default}
use Rattle.e_transfer.specs.inner.ClauseMarks.{clause_needs}
use Rattle.e_transfer.proofs.ClauseMarks.{now-get_or}
use Rattle.e_transfer.proofs.order.marks_needed.Goals as goal

pub returns : goal.returns
returns c = rw now-get_or (get_or_default clause_needs c.args.at _ [] (let low = c.requires in omega (arith, low)))
