use Rattle.e_commands.proofs.answers.DrawerAnswers.{fault_due, fault_unread}
use Rattle.e_commands.proofs.drawer.answer_to.Goals as goal

pub returns-in-Err-clause-due : goal.returns-in-Err-clause-due
returns-in-Err-clause-due c = fault_due c.answer_of_fault.result c.args.text.now c.in-Err.at c.in-Err.ensures c.answer_of_fault.ensures

pub returns-in-Err-clause-no_read : goal.returns-in-Err-clause-no_read
returns-in-Err-clause-no_read c = fault_unread c.answer_of_fault.result c.in-Err.at c.answer_of_fault.ensures
