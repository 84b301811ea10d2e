use Rattle.std.proofs.Common.{◌++◌, subst, arith}
use Rattle.e_commands.specs.Outcome.{lines_of_book}
use Rattle.e_commands.specs.inner.BookResults.{BlocksAre}
use Rattle.e_commands.proofs.progress.TakenBooks.{reaches_remaining}
use Rattle.e_commands.proofs.progress.ReadPieces.{lines_are, number_is}
use Rattle.e_commands.proofs.pieces.take_last.Goals as goal
use Rattle.e_book.specs.Grammar.{Rest}

pub take_all-requires-clause-lines : goal.take_all-requires-clause-lines
take_all-requires-clause-lines g c = omega (arith, c.requires.line, c.requires.few, c.lines-lines.ensures.line, c.lines-lines.ensures.count)

pub returns-clause-ends : goal.returns-clause-ends
returns-clause-ends g c =
    λ read before s.
    let lines = c.lines-lines.result.lines in
    let number = number_is read before c.args.book.now c.args.untaken.now (g.K.Sink.written c.args.sink.now) lines s in
    subst (λ (ls : Rest). BlocksAre ls before (g.K.Sink.written c.take_all.new.sink) c.take_all.result) (lines_are read before c.args.book.now c.args.untaken.now (g.K.Sink.written c.args.sink.now) lines s c.lines-lines.ensures.lines)
    (c.take_all.ensures.ends (λ more. lines_of_book s.taken ++ (lines ++ more)) before (omega (arith, number, c.lines-lines.ensures.line))
    (reaches_remaining (λ more. lines_of_book s.taken ++ more) before c.args.book.now (g.K.Sink.written c.args.sink.now) lines s.reaches))
