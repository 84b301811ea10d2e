use Rattle.e_prove.proofs.Closes.{closed_so, stopped_so}
use Rattle.e_prove.proofs.close.contradiction.Goals as goal

pub returns-clause-ok : goal.returns-clause-ok
returns-clause-ok c = rw c.close_by.ensures (closed_so c.args.context.now c.in_ok-answer.answer c.in_ok-answer.ensures.refuted)

pub returns-clause-err : goal.returns-clause-err
returns-clause-err c = rw c.close_by.ensures (stopped_so c.args.context.now c.in_ok-answer.answer c.in_ok-answer.ensures.refuted)
