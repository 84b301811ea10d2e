use Rattle.std.proofs.Common.{[], Option, Ok, sym, subst, ◌∙◌}
use Rattle.std.proofs.lemmas.Result.{err_from_is_err_and}
use Rattle.e_commands.specs.declared.blocks.BookResult.{BookResult}
use Rattle.e_commands.specs.inner.Progress.{BookTakes}
use Rattle.e_commands.proofs.progress.TakenBooks.{ends_here}
use Rattle.e_commands.proofs.book.Book.take_all.Goals as goal

pub returns-in_err-book_result-clause-ends : goal.returns-in_err-book_result-clause-ends
returns-in_err-book_result-clause-ends g c =
    let p = err_from_is_err_and c.from_residual.result c.from_residual.ensures.1 in
    λ all before is h. rw (p.1, p.2) (c.in_err-book_result.ensures.takes all before h [])

pub returns-in-Some-clause-ends : goal.returns-in-Some-clause-ends
returns-in-Some-clause-ends g c =
    λ all before is h.
    (subst (λ (e : Option BookResult). BookTakes all before (Ok e) c.take.new.self (g.K.Sink.written c.take.new.sink)) c.in-Some.is (c.in_ok-book_result.ensures.takes all before h)) []

pub returns-in-None-clause-ends : goal.returns-in-None-clause-ends
returns-in-None-clause-ends g c =
    let taken = rw c.in-None.is at c.in_ok-book_result.ensures.taken in
    λ all before is h.
    rw c.end.ensures (ends_here all before c.take.new.self (g.K.Sink.written c.take.new.sink) c.line.result (rw c.in-None.is at c.in_ok-book_result.ensures.book) (is ∙ sym taken.line ∙ sym c.line.ensures)
    (subst (λ (e : Option BookResult). BookTakes all before (Ok e) c.take.new.self (g.K.Sink.written c.take.new.sink)) c.in-None.is (c.in_ok-book_result.ensures.takes all before h)))
