use Rattle.std.proofs.Common.{◌++◌, length, arith, subst, ap}
use Rattle.std.proofs.lemmas.List.{append-nil}
use Rattle.e_commands.specs.inner.BookResults.{BlocksAre}
use Rattle.e_commands.proofs.progress.TakenBooks.{first_is_book, reaches_first}
use Rattle.e_commands.proofs.blocks.blocks.Goals as goal
use Rattle.e_book.specs.Grammar.{Rest}

pub take_all-ended-requires-clause-book : goal.take_all-ended-requires-clause-book
take_all-ended-requires-clause-book g c = rw c.new-book.ensures first_is_book

pub returns-clause-book_result : goal.returns-clause-book_result
returns-clause-book_result g c =
    let lines = c.args.lines.now.lines in
    let remaining = λ (more : Rest). lines ++ more in
    subst (λ (ls : Rest). BlocksAre ls (g.K.Sink.written c.args.sink.now) (g.K.Sink.written c.take_all-ended.new.sink) c.take_all-ended.result) (append-nil lines)
    (c.take_all-ended.ensures.ends remaining (g.K.Sink.written c.args.sink.now) (omega (arith, c.requires.first, ap length (append-nil lines)))
    (rw c.new-book.ensures (reaches_first remaining (g.K.Sink.written c.args.sink.now))))
