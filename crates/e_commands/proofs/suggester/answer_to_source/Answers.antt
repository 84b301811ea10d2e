use Rattle.std.proofs.Common.{refl, ap, arith, Err}
use Rattle.e_commands.specs.Outcome.{lines_of_book}
use Rattle.e_commands.specs.SuggesterAnswers.{SuggestAnswer}
use Rattle.e_commands.proofs.answers.Finished.{or_due, or_no_read, read_failed, unread_due}
use Rattle.e_commands.proofs.answers.SuggesterAnswers.{read_book, book_due, book_unread}
use Rattle.e_commands.proofs.suggester.answer_to_source.Goals as goal

pub returns-in-Err-clause-due : goal.returns-in-Err-clause-due
returns-in-Err-clause-due g c =
    unread_due (λ text. SuggestAnswer (lines_of_book text) c.args.title c.args.step) (g.S.Source.left c.args.source.now) c.in-Err.failure (λ text. refl) (λ text. refl) (λ e. c.in-Err.ensures.no_write (ap Err e))

pub returns-in-Err-clause-cause : goal.returns-in-Err-clause-cause
returns-in-Err-clause-cause g c = λ h. c.in-Err.ensures.cause (ap Err (read_failed c.in-Err.failure h))

pub answer_for-requires-clause-few : goal.answer_for-requires-clause-few
answer_for-requires-clause-few g c = omega (arith, c.deref.ensures.len, c.in-Ok.ensures.few)

pub returns-clause-due : goal.returns-clause-due
returns-clause-due g c =
    read_book c.args.title c.args.step (g.S.Source.left c.args.source.now) c.in-Ok.text.items c.or_no_memory.result c.in-Ok.ensures.text
    (or_due (SuggestAnswer (lines_of_book c.in-Ok.text.items) c.args.title c.args.step) c.answer_for.result c.or_no_memory.result refl
    (book_due c.answer_for.result c.deref.result.now c.in-Ok.text.items c.args.title c.args.step c.deref.ensures.value c.answer_for.ensures) c.or_no_memory.ensures)

pub returns-clause-cause : goal.returns-clause-cause
returns-clause-cause g c = λ h. absurd (or_no_read c.answer_for.result c.or_no_memory.result (book_unread c.answer_for.result (lines_of_book c.deref.result.now) c.args.title c.args.step c.answer_for.ensures) c.or_no_memory.ensures h)
