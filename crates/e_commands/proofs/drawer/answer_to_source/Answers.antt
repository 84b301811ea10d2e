use Rattle.std.proofs.Common.{refl, ap, subst, arith, Err, List, ℕ}
use Rattle.std.specs.Prelude.{IfOk}
use Rattle.e_commands.specs.Answers.{IsDrawn}
use Rattle.e_commands.specs.Input.{IsAtEnd}
use Rattle.e_commands.specs.DrawerAnswers.{FigureAnswer}
use Rattle.e_commands.proofs.answers.Finished.{or_due, or_ended, or_no_read, read_failed, unread_due}
use Rattle.e_commands.proofs.answers.DrawerAnswers.{read_figure, drawn_ended}
use Rattle.e_commands.proofs.drawer.answer_to_source.Goals as goal

pub returns-in-Err-clause-due : goal.returns-in-Err-clause-due
returns-in-Err-clause-due g c = unread_due FigureAnswer (g.S.Source.left c.args.source.now) c.in-Err.failure (λ text. refl) (λ text. refl) (λ e. c.in-Err.ensures.no_write (ap Err e))

pub returns-in-Err-clause-cause : goal.returns-in-Err-clause-cause
returns-in-Err-clause-cause g c = λ h. c.in-Err.ensures.cause (ap Err (read_failed c.in-Err.failure h))

pub returns-clause-due : goal.returns-clause-due
returns-clause-due g c =
    read_figure (g.S.Source.left c.args.source.now) c.in-Ok.text.items c.or_no_memory.result c.in-Ok.ensures.text
    (or_due (FigureAnswer c.in-Ok.text.items) c.answer_to.result c.or_no_memory.result refl
    (subst (λ (t : List ℕ). IfOk c.answer_to.result (λ a. FigureAnswer t a.status a.line.items)) c.deref.ensures.value c.answer_to.ensures.due) c.or_no_memory.ensures)

pub returns-clause-end : goal.returns-clause-end
returns-clause-end g c =
    or_ended IsDrawn (IsAtEnd (g.S.Source.left c.read_text.new.source)) c.answer_to.result c.or_no_memory.result
    (drawn_ended c.answer_to.result c.deref.result.now (IsAtEnd (g.S.Source.left c.read_text.new.source)) c.answer_to.ensures.due (λ few. c.in-Ok.ensures.end (omega (arith, c.deref.ensures.len, few)))) c.or_no_memory.ensures

pub returns-clause-cause : goal.returns-clause-cause
returns-clause-cause g c = λ h. absurd (or_no_read c.answer_to.result c.or_no_memory.result c.answer_to.ensures.no_read c.or_no_memory.ensures h)
