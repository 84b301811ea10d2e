use Rattle.std.proofs.Common.{◌≡◌, ◌∙◌, ℕ, List, Some, arith, ap, subst}
use Rattle.std.specs.Prelude.{IfOk}
use Rattle.e_text.specs.Lines.{Ahead}
use Rattle.e_text.proofs.LinesOfTexts.{length-lines_of}
use Rattle.e_generate.specs.Generated.{generated_text}
use Rattle.e_commands.specs.Input.{IsTextOf}
use Rattle.e_commands.specs.Outcome.{lines_of_book}
use Rattle.e_commands.specs.Trials.{TrialAnswer}
use Rattle.e_commands.proofs.answers.Trials.{book_lines}
use Rattle.e_commands.proofs.trier.answer_for.Goals as goal
use Rattle.e_book.specs.Grammar.{Rest}

pub answer_to-requires-clause-few : goal.answer_to-requires-clause-few
answer_to-requires-clause-few c =
    rw c.new-lines.ensures (omega (arith, length-lines_of (record { longest = 1600; most = 4194304 }) (record { line = 1; before = 0 }) c.deref.result.now, c.deref.ensures.len, c.in-Ok.ensures.few))

pub returns : goal.returns
returns c =
    let source : c.new-source.result ≡ generated_text c.args.theorems = c.new-source.ensures ∙ c.in_ok-generated.ensures in
    let text : IsTextOf 4194305 (Some (generated_text c.args.theorems)) c.in-Ok.text.items = subst (λ (b : List ℕ). IsTextOf 4194305 (Some b) c.in-Ok.text.items) source c.in-Ok.ensures.text in
    let lines : c.new-lines.result.lines ≡ lines_of_book (generated_text c.args.theorems) =
    ap (λ (a : Ahead). a.lines) c.new-lines.ensures ∙ ap lines_of_book c.deref.ensures.value ∙ book_lines c.in-Ok.text.items (generated_text c.args.theorems) text in
    subst (λ (l : Rest). IfOk c.answer_to.result (λ a. TrialAnswer l a.status a.line.items)) lines c.answer_to.ensures
