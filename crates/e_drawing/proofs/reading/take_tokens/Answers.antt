use Rattle.std.proofs.Common.{ℕ, List, sym, ap, subst, ◌∙◌}
use Rattle.e_text.specs.Lines.{view_of_line}
use Rattle.e_line.specs.Reading.{Fails}
use Rattle.e_book.specs.Grammar.{is_skipped}
use Rattle.e_drawing.specs.Texts.{words_step}
use Rattle.e_drawing.proofs.PlanLines.{takes_skipped, takes_words, takes_error}
use Rattle.e_drawing.proofs.reading.take_tokens.Goals as goal

pub returns-then-is_skipped-clause-takes : goal.returns-then-is_skipped-clause-takes
returns-then-is_skipped-clause-takes c =
    takes_skipped c.args.plan.now (view_of_line c.args.line.now) (ap is_skipped (sym c.requires.words) ∙ sym c.is_skipped.ensures ∙ c.if-is_skipped.true)

pub returns-in-Ok-clause-takes : goal.returns-in-Ok-clause-takes
returns-in-Ok-clause-takes c =
    takes_words c.args.plan.now c.take_words.new.plan (view_of_line c.args.line.now) (ap is_skipped (sym c.requires.words) ∙ sym c.is_skipped.ensures ∙ c.if-is_skipped.false)
    (ap (words_step c.args.plan.now) (sym c.requires.words) ∙ c.in-Ok.ensures.value)

pub returns-in-Err-clause-takes : goal.returns-in-Err-clause-takes
returns-in-Err-clause-takes c =
    rw c.at.ensures
    (takes_error c.args.plan.now c.take_words.new.plan (view_of_line c.args.line.now) c.in-Err.error (ap is_skipped (sym c.requires.words) ∙ sym c.is_skipped.ensures ∙ c.if-is_skipped.false)
    (subst (λ (ws : List (List ℕ)). Fails c.in-Err.error (words_step c.args.plan.now ws)) c.requires.words c.in-Err.ensures.value))
