use Rattle.std.proofs.Common.{ap, arith, Err}
use Rattle.e_commands.specs.declared.output.Failure.TheVariants.{WriteFault}
use Rattle.e_commands.specs.declared.status.Status.TheVariants as status
use Rattle.e_commands.specs.Outcome.{lines_of_book}
use Rattle.e_commands.proofs.answers.Finished.{or_may_finish, or_no_read, or_never_failed, read_failed, same_failure, rose_over, rose_after}
use Rattle.e_commands.proofs.progress.TakenBytes.{took_none}
use Rattle.e_commands.proofs.written_texts.LastLinesWritten.{any_book, closed_head, finished_result, finished_failure, finished_all, failed_accepted, result_writes, result_unread, has_last_lines}
use Rattle.e_commands.proofs.progress.ReadPieces.{handled_finished}
use Rattle.e_commands.proofs.checker.check.Goals as goal

pub returns-in_default-clause-checks : goal.returns-in_default-clause-checks
returns-in_default-clause-checks g c =
    any_book (g.S.Source.left c.args.source.now) (g.K.Sink.written c.args.sink.now) (g.K.Sink.written c.write_all.new.sink) status.WriteFault (λ lines. closed_head lines (g.K.Sink.written c.args.sink.now) (g.K.Sink.written c.write_all.new.sink) c.in_default.ensures.prefix)

pub returns-in_default-clause-took : goal.returns-in_default-clause-took
returns-in_default-clause-took g c = took_none (g.S.Source.left c.args.source.now)

pub answer_of_result-requires : goal.answer_of_result-requires
answer_of_result-requires g c =
    let e = c.in-Ok-blocks_of_source.ensures.ends in
    has_last_lines (lines_of_book e.0) (g.K.Sink.written c.write_all.new.sink) (g.K.Sink.written c.blocks_of_source.new.sink) c.in-Ok-blocks_of_source.book_result e.2

pub finish-requires : goal.finish-requires
finish-requires g c = or_may_finish c.answer_of_result.result c.or_no_memory.result (result_writes c.answer_of_result.result c.in-Ok-blocks_of_source.book_result c.answer_of_result.ensures) c.or_no_memory.ensures

pub returns-in-Ok-blocks_of_source-clause-checks : goal.returns-in-Ok-blocks_of_source-clause-checks
returns-in-Ok-blocks_of_source-clause-checks g c =
    let e = c.in-Ok-blocks_of_source.ensures.ends in (
      e.0,
      e.1,
      finished_result (lines_of_book e.0) (g.K.Sink.written c.args.sink.now) (g.K.Sink.written c.write_all.new.sink) (g.K.Sink.written c.blocks_of_source.new.sink) (g.K.Sink.written c.finish.new.sink) c.in-Ok-blocks_of_source.book_result c.answer_of_result.result c.or_no_memory.result c.finish.result
          c.in-Ok.ensures.ok e.2 c.answer_of_result.ensures c.or_no_memory.ensures c.finish.ensures.finishes,
    )

pub returns-in-Ok-blocks_of_source-clause-end : goal.returns-in-Ok-blocks_of_source-clause-end
returns-in-Ok-blocks_of_source-clause-end g c =
    λ a. c.in-Ok-blocks_of_source.ensures.end
    (finished_all (g.K.Sink.written c.blocks_of_source.new.sink) (g.K.Sink.written c.finish.new.sink) c.in-Ok-blocks_of_source.book_result c.answer_of_result.result c.or_no_memory.result c.finish.result c.answer_of_result.ensures c.or_no_memory.ensures c.finish.ensures.finishes a)

pub returns-in-Ok-blocks_of_source-clause-handled : goal.returns-in-Ok-blocks_of_source-clause-handled
returns-in-Ok-blocks_of_source-clause-handled g c =
    λ r. absurd (or_no_read c.answer_of_result.result c.or_no_memory.result (result_unread c.answer_of_result.result c.in-Ok-blocks_of_source.book_result c.answer_of_result.ensures) c.or_no_memory.ensures (c.finish.ensures.read r))

pub returns-in-Ok-blocks_of_source-clause-read_cause : goal.returns-in-Ok-blocks_of_source-clause-read_cause
returns-in-Ok-blocks_of_source-clause-read_cause g c =
    λ r. absurd (or_no_read c.answer_of_result.result c.or_no_memory.result (result_unread c.answer_of_result.result c.in-Ok-blocks_of_source.book_result c.answer_of_result.ensures) c.or_no_memory.ensures (c.finish.ensures.read r))

pub returns-in-Ok-blocks_of_source-clause-write_cause : goal.returns-in-Ok-blocks_of_source-clause-write_cause
returns-in-Ok-blocks_of_source-clause-write_cause g c =
    λ h. rose_after _ _ _ _ (omega (arith, c.write_all.ensures.rises, c.blocks_of_source.ensures.write_rises)) (or_never_failed c.answer_of_result.result c.or_no_memory.result c.or_no_memory.ensures) (c.finish.ensures.cause h)

pub returns-in-Err-clause-checks : goal.returns-in-Err-clause-checks
returns-in-Err-clause-checks g c =
    let e = c.in-Err.ensures.ends in
    (e.0, e.1, finished_failure (lines_of_book e.0) (g.K.Sink.written c.args.sink.now) (g.K.Sink.written c.write_all.new.sink) (g.K.Sink.written c.blocks_of_source.new.sink) (g.K.Sink.written c.finish-in-Err.new.sink) c.in-Err.failure c.finish-in-Err.result c.in-Ok.ensures.ok e.2 c.finish-in-Err.ensures.finishes)

pub returns-in-Err-clause-handled : goal.returns-in-Err-clause-handled
returns-in-Err-clause-handled g c =
    λ r. let is = read_failed c.in-Err.failure (c.finish-in-Err.ensures.read r) in
    handled_finished (g.S.Source.left c.args.source.now) (g.S.Source.left c.blocks_of_source.new.source) (g.K.Sink.written c.args.sink.now) (g.K.Sink.written c.write_all.new.sink) (g.K.Sink.written c.blocks_of_source.new.sink) (g.K.Sink.written c.finish-in-Err.new.sink) c.in-Err.failure c.finish-in-Err.result
    is c.in-Ok.ensures.ok (c.in-Err.ensures.handled (ap Err is)) c.finish-in-Err.ensures.finishes r

pub returns-in-Err-clause-end : goal.returns-in-Err-clause-end
returns-in-Err-clause-end g c = λ a. absurd (failed_accepted (g.K.Sink.written c.blocks_of_source.new.sink) (g.K.Sink.written c.finish-in-Err.new.sink) c.in-Err.failure c.finish-in-Err.result c.finish-in-Err.ensures.finishes a)

pub returns-in-Err-clause-read_cause : goal.returns-in-Err-clause-read_cause
returns-in-Err-clause-read_cause g c = λ r. c.in-Err.ensures.read_cause (ap Err (read_failed c.in-Err.failure (c.finish-in-Err.ensures.read r)))

pub returns-in-Err-clause-write_cause : goal.returns-in-Err-clause-write_cause
returns-in-Err-clause-write_cause g c =
    λ h. rose_over _ _ _ _ _ c.write_all.ensures.rises c.blocks_of_source.ensures.write_rises c.finish-in-Err.ensures.rises (λ e. c.in-Err.ensures.write_cause (ap Err (same_failure c.in-Err.failure WriteFault e))) c.finish-in-Err.ensures.still (c.finish-in-Err.ensures.cause h)
