use Rattle.e_commands.proofs.answers.VerifierAnswers.{judged_due, no_read_fault}
use Rattle.e_commands.proofs.verifier.answer_to.Goals as goal

pub returns-clause-due : goal.returns-clause-due
returns-clause-due c = judged_due c.args.text.now c.in_ok-judgement.judgement c.answer_of.result c.in_ok-line.line.items c.in_ok-judgement.ensures c.answer_of.ensures c.in_ok-line.ensures

pub returns-clause-no_read : goal.returns-clause-no_read
returns-clause-no_read c = no_read_fault c.in_ok-judgement.judgement c.answer_of.result c.answer_of.ensures
