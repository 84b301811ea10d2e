use Rattle.std.proofs.Common.{◌++◌, Option, Ok, Err, subst, arith}
use Rattle.std.proofs.lemmas.Result.{err_from_is_err_and}
use Rattle.e_commands.specs.declared.blocks.BookResult.{BookResult}
use Rattle.e_commands.specs.Outcome.{lines_of_book}
use Rattle.e_commands.specs.inner.BookResults.{BookResultIs, BlocksAre}
use Rattle.e_commands.specs.inner.Progress.{BookTakes}
use Rattle.e_commands.proofs.progress.TakenBooks.{reaches_remaining}
use Rattle.e_commands.proofs.progress.ReadPieces.{read_taken, whatever_comes}
use Rattle.e_commands.proofs.pieces.take_closed.Goals as goal
use Rattle.e_book.specs.Grammar.{Rest}

pub take-requires-clause-lines : goal.take-requires-clause-lines
take-requires-clause-lines g c = omega (arith, c.requires.line, c.requires.few, c.lines-lines.ensures.line, c.lines-lines.ensures.count)

pub returns-in_err-take-clause-takes : goal.returns-in_err-take-clause-takes
returns-in_err-take-clause-takes g c =
    let p = err_from_is_err_and c.from_residual.result c.from_residual.ensures.1 in
    λ read before s.
    let lines = c.lines-lines.result.lines in
    let remaining = reaches_remaining (λ more. lines_of_book s.taken ++ more) before c.args.book.now (g.K.Sink.written c.args.sink.now) lines s.reaches in
    rw (p.1, p.2) (whatever_comes (λ ls. BlocksAre ls before (g.K.Sink.written c.take.new.sink) (Err c.in_err-take.field-0.0)) read before c.args.book.now c.args.untaken.now (g.K.Sink.written c.args.sink.now) lines s c.requires.closed c.lines-lines.ensures.lines
    (c.in_err-take.ensures.takes (λ more. lines_of_book s.taken ++ (lines ++ more)) before remaining))

pub returns-in-Some-clause-takes : goal.returns-in-Some-clause-takes
returns-in-Some-clause-takes g c =
    λ read before s.
    let lines = c.lines-lines.result.lines in
    let all = λ (more : Rest). lines_of_book s.taken ++ (lines ++ more) in
    let remaining = reaches_remaining (λ more. lines_of_book s.taken ++ more) before c.args.book.now (g.K.Sink.written c.args.sink.now) lines s.reaches in
    whatever_comes (λ ls. BookResultIs ls before (g.K.Sink.written c.take.new.sink) c.in-Some.book_result) read before c.args.book.now c.args.untaken.now (g.K.Sink.written c.args.sink.now) lines s c.requires.closed c.lines-lines.ensures.lines
    (subst (λ (e : Option BookResult). BookTakes all before (Ok e) c.take.new.self (g.K.Sink.written c.take.new.sink)) c.in-Some.is (c.in_ok-take.ensures.takes all before remaining))

pub overflow_add-untaken : goal.overflow_add-untaken
overflow_add-untaken g c = omega (arith, c.requires.few)

pub returns-clause-takes : goal.returns-clause-takes
returns-clause-takes g c =
    let taken = rw c.in-None.is at c.in_ok-take.ensures.taken in
    λ read before s.
    let lines = c.lines-lines.result.lines in
    let all = λ (more : Rest). lines_of_book s.taken ++ (lines ++ more) in
    let remaining = reaches_remaining (λ more. lines_of_book s.taken ++ more) before c.args.book.now (g.K.Sink.written c.args.sink.now) lines s.reaches in
    read_taken read before c.args.book.now c.take.new.self c.args.untaken.now _ (g.K.Sink.written c.args.sink.now) (g.K.Sink.written c.take.new.sink) lines s c.requires.closed c.clear.ensures.items
    (omega (arith, c.line-line.ensures, taken.line, c.lines-lines.ensures.line)) (omega arith) c.lines-lines.ensures.lines taken.good
    (subst (λ (e : Option BookResult). BookTakes all before (Ok e) c.take.new.self (g.K.Sink.written c.take.new.sink)) c.in-None.is (c.in_ok-take.ensures.takes all before remaining))

pub returns-clause-line : goal.returns-clause-line
returns-clause-line g c =
    let taken = rw c.in-None.is at c.in_ok-take.ensures.taken in
    omega (arith, c.line-line.ensures, taken.line, c.lines-lines.ensures.line, c.lines-lines.ensures.count, c.requires.line)
