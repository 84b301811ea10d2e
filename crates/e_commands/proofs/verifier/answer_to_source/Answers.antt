use Rattle.std.proofs.Common.{refl, ap, subst, arith, Err, List, ℕ}
use Rattle.std.specs.Prelude.{IfOk}
use Rattle.e_commands.specs.Answers.{IsVerified}
use Rattle.e_commands.specs.Input.{IsAtEnd}
use Rattle.e_commands.specs.VerifierAnswers.{TextAnswer}
use Rattle.e_commands.specs.inner.Finished.{HasDue}
use Rattle.e_commands.proofs.answers.Finished.{or_due, or_ended, or_no_read, read_failed, unread_due}
use Rattle.e_commands.proofs.answers.VerifierAnswers.{short_of, long_of, limited_due, limited_unread, limited_unverified, always_ended}
use Rattle.e_commands.proofs.verifier.answer_to_source.Goals as goal

pub returns-in-Err-clause-due : goal.returns-in-Err-clause-due
returns-in-Err-clause-due g c = unread_due TextAnswer (g.S.Source.left c.args.source.now) c.in-Err.failure (λ text. refl) (λ text. refl) (λ e. c.in-Err.ensures.no_write (ap Err e))

pub returns-in-Err-clause-cause : goal.returns-in-Err-clause-cause
returns-in-Err-clause-cause g c = λ h. c.in-Err.ensures.cause (ap Err (read_failed c.in-Err.failure h))

pub returns-then-len-gt-MOST_TEXT-clause-due : goal.returns-then-len-gt-MOST_TEXT-clause-due
returns-then-len-gt-MOST_TEXT-clause-due g c =
    long_of (g.S.Source.left c.args.source.now) c.in-Ok.text.items (λ text. HasDue (TextAnswer text) c.or_no_memory.result) c.in-Ok.ensures.text (omega arith)
    (λ text far. or_due (TextAnswer text) c.answer_with.result c.or_no_memory.result refl (limited_due c.answer_with.result text far c.answer_with.ensures) c.or_no_memory.ensures)

pub returns-then-len-gt-MOST_TEXT-clause-end : goal.returns-then-len-gt-MOST_TEXT-clause-end
returns-then-len-gt-MOST_TEXT-clause-end g c =
    or_ended IsVerified (IsAtEnd (g.S.Source.left c.read_text.new.source)) c.answer_with.result c.or_no_memory.result (limited_unverified c.answer_with.result (IsAtEnd (g.S.Source.left c.read_text.new.source)) c.answer_with.ensures) c.or_no_memory.ensures

pub returns-then-len-gt-MOST_TEXT-clause-cause : goal.returns-then-len-gt-MOST_TEXT-clause-cause
returns-then-len-gt-MOST_TEXT-clause-cause g c = λ h. absurd (or_no_read c.answer_with.result c.or_no_memory.result (limited_unread c.answer_with.result c.answer_with.ensures) c.or_no_memory.ensures h)

pub returns-clause-due : goal.returns-clause-due
returns-clause-due g c =
    short_of (g.S.Source.left c.args.source.now) c.in-Ok.text.items (λ text. HasDue (TextAnswer text) c.or_no_memory-2.result) c.in-Ok.ensures.text (omega arith)
    (or_due (TextAnswer c.in-Ok.text.items) c.answer_to.result c.or_no_memory-2.result refl
    (subst (λ (t : List ℕ). IfOk c.answer_to.result (λ a. TextAnswer t a.status a.line.items)) c.deref.ensures.value c.answer_to.ensures.due) c.or_no_memory-2.ensures)

pub returns-clause-end : goal.returns-clause-end
returns-clause-end g c =
    or_ended IsVerified (IsAtEnd (g.S.Source.left c.read_text.new.source)) c.answer_to.result c.or_no_memory-2.result (always_ended c.answer_to.result IsVerified (IsAtEnd (g.S.Source.left c.read_text.new.source)) (c.in-Ok.ensures.end (omega arith))) c.or_no_memory-2.ensures

pub returns-clause-cause : goal.returns-clause-cause
returns-clause-cause g c = λ h. absurd (or_no_read c.answer_to.result c.or_no_memory-2.result c.answer_to.ensures.no_read c.or_no_memory-2.ensures h)
