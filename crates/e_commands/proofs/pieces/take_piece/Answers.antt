use Rattle.std.proofs.Common.{◌++◌, Err, refl, sym, subst, rules}
use Rattle.std.proofs.lemmas.Result.{err_from_is_err_and}
use Rattle.e_text.specs.Lines.{IsOpen}
use Rattle.e_text.proofs.ClosedTexts.{open_both}
use Rattle.e_commands.specs.Outcome.{lines_of_book}
use Rattle.e_commands.specs.inner.BookResults.{BreaksOff, BookResultIs, BlocksAre}
use Rattle.e_commands.proofs.progress.ReadPieces.{read_more, read_open, read_both, closed_part, open_part, off_now, off_in_piece, in_piece, out_of_memory}
use Rattle.e_commands.proofs.pieces.take_piece.Goals as goal

-- nothing in the piece has its end
pub returns-in_err-extend_from_slice-clause-takes : goal.returns-in_err-extend_from_slice-clause-takes
returns-in_err-extend_from_slice-clause-takes g c =
    λ read before s.
    out_of_memory (read ++ c.args.piece.now) before c.from_residual.result c.args.book.now _ (g.K.Sink.written c.args.sink.now) (search rules)
    (off_in_piece read c.args.piece.now before c.args.book.now c.args.untaken.now (g.K.Sink.written c.args.sink.now) s)

pub returns-then-is_empty-clause-takes : goal.returns-then-is_empty-clause-takes
returns-then-is_empty-clause-takes g c =
    λ read before s.
    read_open read c.args.piece.now c.split_at.result.0.now c.split_at.result.1.now c.is_empty.result before c.args.book.now c.args.untaken.now _ (g.K.Sink.written c.args.sink.now)
    c.split_at.ensures.by_index.0 c.is_empty.ensures c.if-is_empty.true c.in_ok-extend_from_slice.ensures.items refl refl s

pub returns-then-is_empty-clause-unended : goal.returns-then-is_empty-clause-unended
returns-then-is_empty-clause-unended g c =
    subst IsOpen (sym c.in_ok-extend_from_slice.ensures.items)
    (open_both c.args.untaken.now.bytes.items c.split_at.result.1.now c.requires.unended (subst IsOpen (sym c.split_at.ensures.back) c.closed_len.ensures.rest))

-- its lines that have their end are taken
pub take_closed-requires-clause-closed : goal.take_closed-requires-clause-closed
take_closed-requires-clause-closed g c =
    closed_part c.args.untaken.now.bytes.items _ _ c.split_at.result.0.now c.is_empty.result c.in_ok-extend_from_slice-2.ensures.items c.split_at.ensures.front c.is_empty.ensures c.if-is_empty.false c.closed_len.ensures.closed

pub returns-in_err-extend_from_slice-2-clause-takes : goal.returns-in_err-extend_from_slice-2-clause-takes
returns-in_err-extend_from_slice-2-clause-takes g c =
    λ read before s.
    out_of_memory (read ++ c.args.piece.now) before c.from_residual-in_err-extend_from_slice-2.result c.args.book.now _ (g.K.Sink.written c.args.sink.now) (search rules)
    (off_in_piece read c.args.piece.now before c.args.book.now c.args.untaken.now (g.K.Sink.written c.args.sink.now) s)

pub returns-in_err-take_closed-clause-takes : goal.returns-in_err-take_closed-clause-takes
returns-in_err-take_closed-clause-takes g c =
    let p = err_from_is_err_and c.from_residual-in_err-take_closed.result c.from_residual-in_err-take_closed.ensures.1 in
    λ read before s.
    let more = read_more read c.split_at.result.0.now before c.args.book.now c.args.untaken.now _ (g.K.Sink.written c.args.sink.now) c.in_ok-extend_from_slice-2.ensures.items refl refl s in
    rw (p.1, p.2) (in_piece (λ t. BlocksAre (lines_of_book t) before (g.K.Sink.written c.take_closed.new.sink) (Err c.in_err-take_closed.field-0.0)) read c.split_at.result.0.now c.split_at.result.1.now c.args.piece.now c.split_at.ensures.by_index.0
    (c.in_err-take_closed.ensures.takes (read ++ c.split_at.result.0.now) before more))

pub returns-in-Some-clause-takes : goal.returns-in-Some-clause-takes
returns-in-Some-clause-takes g c =
    let takes = rw c.in-Some.is at c.in_ok-take_closed.ensures.takes in
    λ read before s.
    let more = read_more read c.split_at.result.0.now before c.args.book.now c.args.untaken.now _ (g.K.Sink.written c.args.sink.now) c.in_ok-extend_from_slice-2.ensures.items refl refl s in
    in_piece (λ t. BookResultIs (lines_of_book t) before (g.K.Sink.written c.take_closed.new.sink) c.in-Some.book_result) read c.split_at.result.0.now c.split_at.result.1.now c.args.piece.now c.split_at.ensures.by_index.0
    (takes (read ++ c.split_at.result.0.now) before more)

-- and what comes after them is kept
pub returns-in_err-extend_from_slice-3-clause-takes : goal.returns-in_err-extend_from_slice-3-clause-takes
returns-in_err-extend_from_slice-3-clause-takes g c =
    let takes = rw c.in-None.is at c.in_ok-take_closed.ensures.takes in
    λ read before s.
    let more = read_more read c.split_at.result.0.now before c.args.book.now c.args.untaken.now _ (g.K.Sink.written c.args.sink.now) c.in_ok-extend_from_slice-2.ensures.items refl refl s in
    out_of_memory (read ++ c.args.piece.now) before c.from_residual-in_err-extend_from_slice-3.result c.take_closed.new.book _ (g.K.Sink.written c.take_closed.new.sink) (search rules)
    (in_piece (λ t. BreaksOff (lines_of_book t) before (g.K.Sink.written c.take_closed.new.sink)) read c.split_at.result.0.now c.split_at.result.1.now c.args.piece.now c.split_at.ensures.by_index.0
    (off_now (read ++ c.split_at.result.0.now) before c.take_closed.new.book c.take_closed.new.untaken (g.K.Sink.written c.take_closed.new.sink) (takes (read ++ c.split_at.result.0.now) before more)))

pub returns-clause-takes : goal.returns-clause-takes
returns-clause-takes g c =
    let takes = rw c.in-None.is at c.in_ok-take_closed.ensures.takes in
    λ read before s.
    let more = read_more read c.split_at.result.0.now before c.args.book.now c.args.untaken.now _ (g.K.Sink.written c.args.sink.now) c.in_ok-extend_from_slice-2.ensures.items refl refl s in
    read_both read c.args.piece.now c.split_at.result.0.now c.split_at.result.1.now before c.take_closed.new.book c.take_closed.new.untaken _ (g.K.Sink.written c.take_closed.new.sink)
    c.split_at.ensures.by_index.0 c.in_ok-extend_from_slice-3.ensures.items refl refl (takes (read ++ c.split_at.result.0.now) before more)

pub returns-clause-unended : goal.returns-clause-unended
returns-clause-unended g c =
    let none = rw c.in-None.is at c.in_ok-take_closed.ensures.taken in
    open_part c.take_closed.new.untaken.bytes.items _ _ c.split_at.result.1.now c.in_ok-extend_from_slice-3.ensures.items none c.split_at.ensures.back c.closed_len.ensures.rest
