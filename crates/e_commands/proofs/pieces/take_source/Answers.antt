use Rattle.std.proofs.Common.{◌≤◌, ◌++◌, [], Ok, Err, refl, ap, arith, length, take}
use Rattle.std.proofs.lemmas.Grind.{common_steps}
use Rattle.std.proofs.lemmas.Result.{err_from_is_err_and}
use Rattle.e_commands.specs.Input.{IsAtEnd}
use Rattle.e_commands.specs.Outcome.{lines_of_book}
use Rattle.e_commands.specs.inner.BookResults.{BreaksOff}
use Rattle.e_commands.specs.Taken.{OfWholeLines}
use Rattle.e_commands.specs.inner.Handled.{AllBlocks, HandledBlocks}
use Rattle.e_commands.proofs.progress.TakenBooks.{first_is_book}
use Rattle.e_commands.proofs.progress.TakenBytes.{taken_at_start, taken_all, taken_enough, taken_nothing, taken_then_failed, at_end, taken_of, all_of}
use Rattle.e_commands.proofs.outcomes.AcceptedBooks.{never_all}
use Rattle.e_commands.proofs.progress.ReadPieces.{read_first, off_now, count_is, read_state_more, ends_in_piece, took_in_piece, all_too_long, text_ends, no_read, if_all, handled_now}
use Rattle.e_commands.proofs.pieces.take_source.Goals as goal

pub loop-buffer-init : goal.loop-buffer-init
loop-buffer-init g c = record {
  read_state = record {
    read = [];
    so_far = taken_at_start (g.S.Source.left c.args.source.now);
    is_read = rw c.requires (read_first c.new-untaken.result (g.K.Sink.written c.args.sink.now) c.new-untaken.ensures.bytes c.new-untaken.ensures.line c.new-untaken.ensures.before);
  };
  unended = rw c.new-untaken.ensures.bytes refl;
  book = rw c.requires first_is_book;
  few = omega (arith, c.new-untaken.ensures.before, ap length c.new-untaken.ensures.bytes);
  line = omega (arith, c.new-untaken.ensures.line, c.new-untaken.ensures.before);
  read_rises = omega arith;
  write_rises = omega arith;
}

-- ---- the source failed

pub returns-in-Err-clause-ends : goal.returns-in-Err-clause-ends
returns-in-Err-clause-ends g c =
    let st = c.loop-buffer.invariant.read_state in
    all_of (g.S.Source.left c.args.source.now) (g.S.Source.left c.loop-buffer.source) st.read (λ text. BreaksOff (lines_of_book text) (g.K.Sink.written c.args.sink.now) (g.K.Sink.written c.loop-buffer.sink)) st.so_far
    (off_now st.read (g.K.Sink.written c.args.sink.now) c.loop-buffer.book c.loop-buffer.untaken (g.K.Sink.written c.loop-buffer.sink) st.is_read)

pub returns-in-Err-clause-handled : goal.returns-in-Err-clause-handled
returns-in-Err-clause-handled g c =
    let st = c.loop-buffer.invariant.read_state in
    λ e. taken_of (g.S.Source.left c.args.source.now) (g.S.Source.left c.read.new.self) st.read (OfWholeLines (λ lines. AllBlocks lines (g.K.Sink.written c.args.sink.now) (g.K.Sink.written c.loop-buffer.sink)))
    (taken_then_failed _ (g.S.Source.left c.args.source.now) (g.S.Source.left c.loop-buffer.source) (g.S.Source.left c.read.new.self) st.read c.read.new.to _ st.so_far c.in-Err.ensures.bytes)
    (handled_now st.read (g.K.Sink.written c.args.sink.now) c.loop-buffer.book c.loop-buffer.untaken (g.K.Sink.written c.loop-buffer.sink) c.loop-buffer.invariant.book st.is_read c.loop-buffer.invariant.unended)

pub returns-in-Err-clause-took : goal.returns-in-Err-clause-took
returns-in-Err-clause-took g c =
    let st = c.loop-buffer.invariant.read_state in
    let count = count_is st.read (g.K.Sink.written c.args.sink.now) c.loop-buffer.book c.loop-buffer.untaken (g.K.Sink.written c.loop-buffer.sink) st.is_read in
    taken_of (g.S.Source.left c.args.source.now) (g.S.Source.left c.read.new.self) st.read (λ taken. length taken ≤ 4194305)
    (taken_then_failed _ (g.S.Source.left c.args.source.now) (g.S.Source.left c.loop-buffer.source) (g.S.Source.left c.read.new.self) st.read c.read.new.to _ st.so_far c.in-Err.ensures.bytes)
    (omega (arith, count, c.loop-buffer.invariant.few))

-- ---- it was at its end

pub returns-then-n-eq0-clause-ends : goal.returns-then-n-eq0-clause-ends
returns-then-n-eq0-clause-ends g c =
    let st = c.loop-buffer.invariant.read_state in
    let count = count_is st.read (g.K.Sink.written c.args.sink.now) c.loop-buffer.book c.loop-buffer.untaken (g.K.Sink.written c.loop-buffer.sink) st.is_read in
    text_ends (g.S.Source.left c.args.source.now) st.read (g.K.Sink.written c.args.sink.now) (g.K.Sink.written c.take_last.new.sink) c.take_last.result
    (taken_all _ 4194305 (g.S.Source.left c.args.source.now) (g.S.Source.left c.loop-buffer.source) (g.S.Source.left c.read.new.self) st.read c.read.new.to (Ok 0) refl (omega (arith, count, c.loop-buffer.invariant.few)) st.so_far (rw c.if-n-eq0.true at c.in-Ok.ensures.bytes))
    (c.take_last.ensures.ends st.read (g.K.Sink.written c.args.sink.now) st.is_read)

pub returns-then-n-eq0-clause-handled : goal.returns-then-n-eq0-clause-handled
returns-then-n-eq0-clause-handled g c =
    let st = c.loop-buffer.invariant.read_state in
    λ e. absurd {A = HandledBlocks (g.S.Source.left c.args.source.now) (g.S.Source.left c.read.new.self) (g.K.Sink.written c.args.sink.now) (g.K.Sink.written c.take_last.new.sink)}
    (no_read (lines_of_book st.read) (g.K.Sink.written c.args.sink.now) (g.K.Sink.written c.take_last.new.sink) c.take_last.result (c.take_last.ensures.ends st.read (g.K.Sink.written c.args.sink.now) st.is_read) e)

pub returns-then-n-eq0-clause-read_cause : goal.returns-then-n-eq0-clause-read_cause
returns-then-n-eq0-clause-read_cause g c =
    let st = c.loop-buffer.invariant.read_state in
    λ e. absurd (no_read (lines_of_book st.read) (g.K.Sink.written c.args.sink.now) (g.K.Sink.written c.take_last.new.sink) c.take_last.result (c.take_last.ensures.ends st.read (g.K.Sink.written c.args.sink.now) st.is_read) e)

pub returns-then-n-eq0-clause-took : goal.returns-then-n-eq0-clause-took
returns-then-n-eq0-clause-took g c =
    let st = c.loop-buffer.invariant.read_state in
    let count = count_is st.read (g.K.Sink.written c.args.sink.now) c.loop-buffer.book c.loop-buffer.untaken (g.K.Sink.written c.loop-buffer.sink) st.is_read in
    taken_of (g.S.Source.left c.args.source.now) (g.S.Source.left c.read.new.self) st.read (λ taken. length taken ≤ 4194305)
    (taken_nothing _ (g.S.Source.left c.args.source.now) (g.S.Source.left c.loop-buffer.source) (g.S.Source.left c.read.new.self) st.read c.read.new.to st.so_far (rw c.if-n-eq0.true at c.in-Ok.ensures.bytes))
    (omega (arith, count, c.loop-buffer.invariant.few))

pub returns-then-n-eq0-clause-end : goal.returns-then-n-eq0-clause-end
returns-then-n-eq0-clause-end g c =
    let st = c.loop-buffer.invariant.read_state in
    if_all (IsAtEnd (g.S.Source.left c.read.new.self)) c.take_last.result (at_end _ (g.S.Source.left c.args.source.now) (g.S.Source.left c.loop-buffer.source) (g.S.Source.left c.read.new.self) st.read c.read.new.to st.so_far (rw c.if-n-eq0.true at c.in-Ok.ensures.bytes))

-- ---- the blocks break off or end in a piece

pub returns-in_err-take_piece-clause-ends : goal.returns-in_err-take_piece-clause-ends
returns-in_err-take_piece-clause-ends g c =
    let st = c.loop-buffer.invariant.read_state in
    let p = err_from_is_err_and c.from_residual.result c.from_residual.ensures.1 in
    rw (p.1, p.2) (ends_in_piece _ (g.S.Source.left c.args.source.now) (g.S.Source.left c.loop-buffer.source) (g.S.Source.left c.read.new.self) (g.K.Sink.written c.args.sink.now) c.loop-buffer.book c.loop-buffer.untaken (g.K.Sink.written c.loop-buffer.sink) (g.K.Sink.written c.take_piece.new.sink) c.read.new.to _ c.in-Ok.n st (Err c.in_err-take_piece.field-0.0) (grind (arith, common_steps)) c.in-Ok.ensures.bytes
    (c.in_err-take_piece.ensures.takes st.read (g.K.Sink.written c.args.sink.now) st.is_read))

pub returns-in_err-take_piece-clause-handled : goal.returns-in_err-take_piece-clause-handled
returns-in_err-take_piece-clause-handled g c =
    let st = c.loop-buffer.invariant.read_state in
    let p = err_from_is_err_and c.from_residual.result c.from_residual.ensures.1 in
    rw (p.1, p.2) (λ e. absurd {A = HandledBlocks (g.S.Source.left c.args.source.now) (g.S.Source.left c.read.new.self) (g.K.Sink.written c.args.sink.now) (g.K.Sink.written c.take_piece.new.sink)}
    (no_read _ (g.K.Sink.written c.args.sink.now) (g.K.Sink.written c.take_piece.new.sink) (Err c.in_err-take_piece.field-0.0) (c.in_err-take_piece.ensures.takes st.read (g.K.Sink.written c.args.sink.now) st.is_read []) e))

pub returns-in_err-take_piece-clause-read_cause : goal.returns-in_err-take_piece-clause-read_cause
returns-in_err-take_piece-clause-read_cause g c =
    let st = c.loop-buffer.invariant.read_state in
    let p = err_from_is_err_and c.from_residual.result c.from_residual.ensures.1 in
    rw (p.1, p.2) (λ e. absurd (no_read _ (g.K.Sink.written c.args.sink.now) (g.K.Sink.written c.take_piece.new.sink) (Err c.in_err-take_piece.field-0.0) (c.in_err-take_piece.ensures.takes st.read (g.K.Sink.written c.args.sink.now) st.is_read []) e))

pub returns-in_err-take_piece-clause-took : goal.returns-in_err-take_piece-clause-took
returns-in_err-take_piece-clause-took g c =
    took_in_piece _ (g.S.Source.left c.args.source.now) (g.S.Source.left c.loop-buffer.source) (g.S.Source.left c.read.new.self) (g.K.Sink.written c.args.sink.now) c.loop-buffer.book c.loop-buffer.untaken (g.K.Sink.written c.loop-buffer.sink) c.read.new.to (take c.in-Ok.n c.read.new.to) c.in-Ok.n c.loop-buffer.invariant.read_state refl c.in-Ok.ensures.bytes (grind (arith, common_steps))

pub returns-in-Some-clause-ends : goal.returns-in-Some-clause-ends
returns-in-Some-clause-ends g c =
    let st = c.loop-buffer.invariant.read_state in
    let takes = rw c.in-Some.is at c.in_ok-take_piece.ensures.takes in
    ends_in_piece _ (g.S.Source.left c.args.source.now) (g.S.Source.left c.loop-buffer.source) (g.S.Source.left c.read.new.self) (g.K.Sink.written c.args.sink.now) c.loop-buffer.book c.loop-buffer.untaken (g.K.Sink.written c.loop-buffer.sink) (g.K.Sink.written c.take_piece.new.sink) c.read.new.to _ c.in-Ok.n st (Ok c.in-Some.book_result) (grind (arith, common_steps)) c.in-Ok.ensures.bytes (takes st.read (g.K.Sink.written c.args.sink.now) st.is_read)

pub returns-in-Some-clause-took : goal.returns-in-Some-clause-took
returns-in-Some-clause-took g c =
    took_in_piece _ (g.S.Source.left c.args.source.now) (g.S.Source.left c.loop-buffer.source) (g.S.Source.left c.read.new.self) (g.K.Sink.written c.args.sink.now) c.loop-buffer.book c.loop-buffer.untaken (g.K.Sink.written c.loop-buffer.sink) c.read.new.to (take c.in-Ok.n c.read.new.to) c.in-Ok.n c.loop-buffer.invariant.read_state refl c.in-Ok.ensures.bytes (grind (arith, common_steps))

pub returns-in-Some-clause-end : goal.returns-in-Some-clause-end
returns-in-Some-clause-end g c =
    let st = c.loop-buffer.invariant.read_state in
    let takes = rw c.in-Some.is at c.in_ok-take_piece.ensures.takes in
    λ a. absurd (never_all (g.K.Sink.written c.args.sink.now) (g.K.Sink.written c.take_piece.new.sink) (st.read ++ _) c.in-Some.book_result (takes st.read (g.K.Sink.written c.args.sink.now) st.is_read) a)

-- ---- one piece more

pub loop-buffer-preserved : goal.loop-buffer-preserved
loop-buffer-preserved g c =
    let st = c.loop-buffer.invariant.read_state in
    let taken = c.in_ok-take_piece.ensures in
    let takes = rw c.in-None.is at taken.takes in
    record {
      read_state = read_state_more _ (g.S.Source.left c.args.source.now) (g.S.Source.left c.loop-buffer.source) (g.S.Source.left c.read.new.self) (g.K.Sink.written c.args.sink.now) c.loop-buffer.book c.take_piece.new.book c.loop-buffer.untaken c.take_piece.new.untaken (g.K.Sink.written c.loop-buffer.sink) (g.K.Sink.written c.take_piece.new.sink) c.read.new.to _ c.in-Ok.n st (grind (arith, common_steps)) c.in-Ok.ensures.bytes (takes st.read (g.K.Sink.written c.args.sink.now) st.is_read);
      unended = rw c.in-None.is at taken.unended;
      book = rw c.in-None.is at taken.book;
      few = grind (arith, common_steps, (rw c.in-None.is at taken.count), c.in-Ok.ensures.count);
      line = rw c.in-None.is at taken.line;
      read_rises = omega (arith, c.loop-buffer.invariant.read_rises, c.read.ensures.rises);
      write_rises = omega (arith, c.loop-buffer.invariant.write_rises, c.take_piece.ensures.rises);
    }

-- ---- as many bytes were read as are wanted

pub returns-clause-ends : goal.returns-clause-ends
returns-clause-ends g c =
    let st = c.loop-buffer.invariant.read_state in
    let count = count_is st.read (g.K.Sink.written c.args.sink.now) c.loop-buffer.book c.loop-buffer.untaken (g.K.Sink.written c.loop-buffer.sink) st.is_read in
    text_ends (g.S.Source.left c.args.source.now) st.read (g.K.Sink.written c.args.sink.now) (g.K.Sink.written c.take_last-2.new.sink) c.take_last-2.result
    (taken_enough 4194305 (g.S.Source.left c.args.source.now) (g.S.Source.left c.loop-buffer.source) st.read (omega (arith, count, c.loop-buffer.invariant.few)) st.so_far)
    (c.take_last-2.ensures.ends st.read (g.K.Sink.written c.args.sink.now) st.is_read)

pub returns-clause-handled : goal.returns-clause-handled
returns-clause-handled g c =
    let st = c.loop-buffer.invariant.read_state in
    λ e. absurd {A = HandledBlocks (g.S.Source.left c.args.source.now) (g.S.Source.left c.loop-buffer.source) (g.K.Sink.written c.args.sink.now) (g.K.Sink.written c.take_last-2.new.sink)}
    (no_read (lines_of_book st.read) (g.K.Sink.written c.args.sink.now) (g.K.Sink.written c.take_last-2.new.sink) c.take_last-2.result (c.take_last-2.ensures.ends st.read (g.K.Sink.written c.args.sink.now) st.is_read) e)

pub returns-clause-read_cause : goal.returns-clause-read_cause
returns-clause-read_cause g c =
    let st = c.loop-buffer.invariant.read_state in
    λ e. absurd (no_read (lines_of_book st.read) (g.K.Sink.written c.args.sink.now) (g.K.Sink.written c.take_last-2.new.sink) c.take_last-2.result (c.take_last-2.ensures.ends st.read (g.K.Sink.written c.args.sink.now) st.is_read) e)

pub returns-clause-took : goal.returns-clause-took
returns-clause-took g c =
    let st = c.loop-buffer.invariant.read_state in
    let count = count_is st.read (g.K.Sink.written c.args.sink.now) c.loop-buffer.book c.loop-buffer.untaken (g.K.Sink.written c.loop-buffer.sink) st.is_read in
    taken_of (g.S.Source.left c.args.source.now) (g.S.Source.left c.loop-buffer.source) st.read (λ taken. length taken ≤ 4194305) st.so_far (omega (arith, count, c.loop-buffer.invariant.few))

pub returns-clause-end : goal.returns-clause-end
returns-clause-end g c =
    let st = c.loop-buffer.invariant.read_state in
    let count = count_is st.read (g.K.Sink.written c.args.sink.now) c.loop-buffer.book c.loop-buffer.untaken (g.K.Sink.written c.loop-buffer.sink) st.is_read in
    all_too_long (g.K.Sink.written c.args.sink.now) (g.K.Sink.written c.take_last-2.new.sink) st.read (IsAtEnd (g.S.Source.left c.loop-buffer.source)) c.take_last-2.result (c.take_last-2.ensures.ends st.read (g.K.Sink.written c.args.sink.now) st.is_read) (omega (arith, count))
