use Rattle.std.proofs.Common.{ap, arith, subst}
use Rattle.std.specs.Prelude.{IfOk}
use Rattle.e_text.specs.Lines.{Ahead}
use Rattle.e_text.proofs.LinesOfTexts.{length-lines_of}
use Rattle.e_commands.specs.inner.Suggesting.{IsBookAnswer}
use Rattle.e_commands.proofs.suggester.answer_for.Goals as goal
use Rattle.e_book.specs.Grammar.{Rest}

pub answer_to-answer-requires-clause-few : goal.answer_to-answer-requires-clause-few
answer_to-answer-requires-clause-few c =
    rw c.new-lines.ensures (omega (arith, length-lines_of (record { longest = 1600; most = 4194304 }) (record { line = 1; before = 0 }) c.args.text.now, c.requires.few))

pub returns : goal.returns
returns c =
    subst (λ (l : Rest). IfOk c.answer_to-answer.result (λ a. IsBookAnswer l c.args.title c.args.step a.status a.line.items)) (ap (λ (a : Ahead). a.lines) c.new-lines.ensures) c.answer_to-answer.ensures
