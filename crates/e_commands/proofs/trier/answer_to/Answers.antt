use Rattle.std.proofs.Common.{◌≡◌, ◌∙◌, ℕ, List, [], Some, Result, Ok, Err, sym, ap, subst}
use Rattle.std.specs.Prelude.{IfOk}
use Rattle.e_io.specs.Bytes.{Grew}
use Rattle.e_commands.specs.declared.blocks.BookResult.{BookResult}
use Rattle.e_commands.specs.declared.status.Status.TheVariants as status
use Rattle.e_commands.specs.declared.output.Answer.{Answer}
use Rattle.e_commands.specs.LastLines.{tried_line}
use Rattle.e_commands.specs.inner.BookResults.{BookResultIs, last_lines}
use Rattle.e_commands.specs.Trials.{IsTrial, TrialAnswer}
use Rattle.e_commands.proofs.answers.Trials.{is_other, result_answered, accepted_tried, accepted_verified, tried_answered}
use Rattle.e_commands.proofs.trier.answer_to.Goals as goal
use Rattle.e_book.specs.Grammar.{Rest}
use Rattle.e_roundtrip.specs.Written.{version_line}
use Rattle.e_clause.specs.declared.cert.Version.TheVariants.{One}

answered_if : {E : Type 0} → (lines : Rest) (n s : ℕ) (r : Result Answer E) → IsTrial lines n s
    → IfOk r (λ a. (a.status ≡ status.Tried n s) × (a.line.items ≡ tried_line n s)) → IfOk r (λ a. TrialAnswer lines a.status a.line.items)
answered_if lines n s (Ok a) t h = tried_answered lines n s a.status a.line.items t h.0 h.1
answered_if lines n s (Err e) t h = tt

pub returns-in_default-book_result : goal.returns-in_default-book_result
returns-in_default-book_result c =
    result_answered c.args.lines.now.lines (Some c.write_all.new.sink.0) (Some c.blocks-2.new.sink.0) c.in-Ok-blocks.book_result c.answer_of.result c.in-Ok-last_lines.line.items
    (is_other c.in-Ok-blocks.book_result c.in_default-book_result.not-All) c.in-Ok-blocks.ensures.book_result c.answer_of.ensures c.in-Ok-last_lines.ensures

pub answer_of_accepted-requires-clause-verified : goal.answer_of_accepted-requires-clause-verified
answer_of_accepted-requires-clause-verified c =
    let head : Grew (Some []) (Some c.write_all.new.sink.0) (version_line One) = rw c.new-store.ensures at c.in-Ok.ensures.ok in
    let book_result = subst (λ (e : BookResult). BookResultIs c.args.lines.now.lines (Some c.write_all.new.sink.0) (Some c.blocks-2.new.sink.0) e) c.in-All.is c.in-Ok-blocks.ensures.book_result in
    accepted_verified c.args.lines.now.lines (Some c.write_all.new.sink.0) (Some c.blocks-2.new.sink.0) (Some c.write_all-2.new.sink.0) c.in-All.theorems c.in-All.steps c.deref-2.result.now c.deref.result.now
    head book_result c.in-Ok-write_all.ensures.ok (c.deref.ensures.value ∙ c.in-Ok-last_lines.ensures ∙ ap last_lines c.in-All.is) (ap (λ (l : List ℕ). Some l) (sym (c.deref-2.ensures.value ∙ c.into_bytes.ensures.value)))

pub returns : goal.returns
returns c =
    let head : Grew (Some []) (Some c.write_all.new.sink.0) (version_line One) = rw c.new-store.ensures at c.in-Ok.ensures.ok in
    let book_result = subst (λ (e : BookResult). BookResultIs c.args.lines.now.lines (Some c.write_all.new.sink.0) (Some c.blocks-2.new.sink.0) e) c.in-All.is c.in-Ok-blocks.ensures.book_result in
    answered_if c.args.lines.now.lines c.in-All.theorems c.in-All.steps c.answer_of_accepted.result
    (accepted_tried c.args.lines.now.lines (Some c.write_all.new.sink.0) (Some c.blocks-2.new.sink.0) (Some c.write_all-2.new.sink.0) c.in-All.theorems c.in-All.steps c.deref-2.result.now c.deref.result.now
    head book_result c.in-Ok-write_all.ensures.ok (c.deref.ensures.value ∙ c.in-Ok-last_lines.ensures ∙ ap last_lines c.in-All.is) (ap (λ (l : List ℕ). Some l) (sym (c.deref-2.ensures.value ∙ c.into_bytes.ensures.value))))
    c.answer_of_accepted.ensures
