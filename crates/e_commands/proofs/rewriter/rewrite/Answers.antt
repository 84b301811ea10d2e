use Rattle.std.proofs.Common.{refl, ap, subst, List, ℕ, arith, Ok, Err}
use Rattle.e_io.specs.Bytes.{Grew, GrewByFront}
use Rattle.e_commands.specs.LastLines.{text_limit_line}
use Rattle.e_commands.specs.declared.output.Failure.TheVariants.{WriteFault}
use Rattle.e_commands.specs.declared.status.Status.TheVariants as status
use Rattle.e_commands.specs.inner.Rewriting.{BlocksWritten}
use Rattle.e_commands.proofs.answers.Finished.{or_may_finish, or_no_read, or_never_failed, read_failed, same_failure, rose_over, rose_after}
use Rattle.e_commands.proofs.answers.VerifierAnswers.{any_of, short_of, long_of}
use Rattle.e_commands.proofs.written_texts.RewrittenTexts.{closed_first, closed_head, closed_judgement, reported, judgement_unread, judgement_writes, unread, broken_off, never_read, failed_rewritten}
use Rattle.e_commands.proofs.rewriter.rewrite.Goals as goal
use Rattle.e_commands.specs.Wrote.{Wrote}
use Rattle.e_commands.specs.Rewrites.{RewriteAnswer}

pub returns-in_default-clause-rewrites : goal.returns-in_default-clause-rewrites
returns-in_default-clause-rewrites g c =
    any_of (g.S.Source.left c.args.source.now) (λ text. Wrote (RewriteAnswer c.args.job text) (g.K.Sink.written c.args.sink.now) (g.K.Sink.written c.write_all.new.sink) status.WriteFault)
    (λ text. closed_head c.args.job text (g.K.Sink.written c.args.sink.now) (g.K.Sink.written c.write_all.new.sink) (subst (λ (b : List ℕ). GrewByFront (g.K.Sink.written c.args.sink.now) (g.K.Sink.written c.write_all.new.sink) b) c.head_of.ensures c.in_default.ensures.prefix))

pub returns-in-Err-clause-rewrites : goal.returns-in-Err-clause-rewrites
returns-in-Err-clause-rewrites g c =
    unread c.args.job (g.S.Source.left c.args.source.now) (g.K.Sink.written c.args.sink.now) (g.K.Sink.written c.write_all.new.sink) (g.K.Sink.written c.finish.new.sink) c.in-Err.failure c.finish.result (λ e. c.in-Err.ensures.no_write (ap Err e)) (subst (λ (b : List ℕ). Grew (g.K.Sink.written c.args.sink.now) (g.K.Sink.written c.write_all.new.sink) b) c.head_of.ensures c.in-Ok.ensures.ok) c.finish.ensures.finishes

pub returns-in-Err-clause-end : goal.returns-in-Err-clause-end
returns-in-Err-clause-end g c = λ a. absurd (failed_rewritten (g.K.Sink.written c.write_all.new.sink) (g.K.Sink.written c.finish.new.sink) c.in-Err.failure c.finish.result c.finish.ensures.finishes a)

pub returns-in-Err-clause-read_cause : goal.returns-in-Err-clause-read_cause
returns-in-Err-clause-read_cause g c = λ r. c.in-Err.ensures.cause (ap Err (read_failed c.in-Err.failure (c.finish.ensures.read r)))

pub returns-in-Err-clause-write_cause : goal.returns-in-Err-clause-write_cause
returns-in-Err-clause-write_cause g c = λ h. rose_after _ _ _ _ c.write_all.ensures.rises (λ e. c.in-Err.ensures.no_write (ap Err (same_failure c.in-Err.failure WriteFault e))) (c.finish.ensures.cause h)

pub returns-then-len-gt-MOST_TEXT-clause-rewrites : goal.returns-then-len-gt-MOST_TEXT-clause-rewrites
returns-then-len-gt-MOST_TEXT-clause-rewrites g c =
    long_of (g.S.Source.left c.args.source.now) c.in-Ok-read_text.text.items (λ text. Wrote (RewriteAnswer c.args.job text) (g.K.Sink.written c.args.sink.now) (g.K.Sink.written c.close.new.sink) c.close.result)
    c.in-Ok-read_text.ensures.text (omega arith)
    (λ text far. closed_first c.args.job text (g.K.Sink.written c.args.sink.now) (g.K.Sink.written c.write_all.new.sink) (g.K.Sink.written c.close.new.sink) text_limit_line status.TextLimit c.close.result (far, refl)
    (subst (λ (b : List ℕ). Grew (g.K.Sink.written c.args.sink.now) (g.K.Sink.written c.write_all.new.sink) b) c.head_of.ensures c.in-Ok.ensures.ok) c.close.ensures.closes)

pub finish-requires-in-Ok-rewrite_blocks : goal.finish-requires-in-Ok-rewrite_blocks
finish-requires-in-Ok-rewrite_blocks g c = or_may_finish c.answer_to.result c.or_no_memory.result (judgement_writes c.args.job c.answer_to.result c.in-Ok-rewrite_blocks.judgement c.answer_to.ensures) c.or_no_memory.ensures

pub returns-in-Ok-rewrite_blocks-clause-rewrites : goal.returns-in-Ok-rewrite_blocks-clause-rewrites
returns-in-Ok-rewrite_blocks-clause-rewrites g c =
    short_of (g.S.Source.left c.args.source.now) c.in-Ok-read_text.text.items (λ text. Wrote (RewriteAnswer c.args.job text) (g.K.Sink.written c.args.sink.now) (g.K.Sink.written c.finish-in-Ok-rewrite_blocks.new.sink) c.finish-in-Ok-rewrite_blocks.result) c.in-Ok-read_text.ensures.text (omega arith)
    (closed_judgement c.args.job c.in-Ok-read_text.text.items (g.K.Sink.written c.args.sink.now) (g.K.Sink.written c.write_all.new.sink) (g.K.Sink.written c.rewrite_blocks.new.sink) (g.K.Sink.written c.finish-in-Ok-rewrite_blocks.new.sink) c.in-Ok-rewrite_blocks.judgement c.finish-in-Ok-rewrite_blocks.result
    (subst (λ (b : List ℕ). Grew (g.K.Sink.written c.args.sink.now) (g.K.Sink.written c.write_all.new.sink) b) c.head_of.ensures c.in-Ok.ensures.ok)
    (subst (λ (t : List ℕ). BlocksWritten c.args.job t (g.K.Sink.written c.write_all.new.sink) (g.K.Sink.written c.rewrite_blocks.new.sink) (Ok c.in-Ok-rewrite_blocks.judgement)) c.deref.ensures.value c.in-Ok-rewrite_blocks.ensures.wrote)
    (reported c.args.job (g.K.Sink.written c.rewrite_blocks.new.sink) (g.K.Sink.written c.finish-in-Ok-rewrite_blocks.new.sink) c.answer_to.result c.or_no_memory.result c.in-Ok-rewrite_blocks.judgement c.finish-in-Ok-rewrite_blocks.result c.answer_to.ensures c.or_no_memory.ensures c.finish-in-Ok-rewrite_blocks.ensures.finishes))

pub returns-in-Ok-rewrite_blocks-clause-read_cause : goal.returns-in-Ok-rewrite_blocks-clause-read_cause
returns-in-Ok-rewrite_blocks-clause-read_cause g c =
    λ r. absurd (or_no_read c.answer_to.result c.or_no_memory.result (judgement_unread c.args.job c.answer_to.result c.in-Ok-rewrite_blocks.judgement c.answer_to.ensures) c.or_no_memory.ensures (c.finish-in-Ok-rewrite_blocks.ensures.read r))

pub returns-in-Ok-rewrite_blocks-clause-write_cause : goal.returns-in-Ok-rewrite_blocks-clause-write_cause
returns-in-Ok-rewrite_blocks-clause-write_cause g c =
    λ h. rose_after _ _ _ _ (omega (arith, c.write_all.ensures.rises, c.rewrite_blocks.ensures.rises)) (or_never_failed c.answer_to.result c.or_no_memory.result c.or_no_memory.ensures) (c.finish-in-Ok-rewrite_blocks.ensures.cause h)

pub returns-clause-rewrites : goal.returns-clause-rewrites
returns-clause-rewrites g c =
    short_of (g.S.Source.left c.args.source.now) c.in-Ok-read_text.text.items (λ text. Wrote (RewriteAnswer c.args.job text) (g.K.Sink.written c.args.sink.now) (g.K.Sink.written c.finish-in-Err-rewrite_blocks.new.sink) c.finish-in-Err-rewrite_blocks.result) c.in-Ok-read_text.ensures.text (omega arith)
    (broken_off c.args.job c.in-Ok-read_text.text.items (g.K.Sink.written c.args.sink.now) (g.K.Sink.written c.write_all.new.sink) (g.K.Sink.written c.rewrite_blocks.new.sink) (g.K.Sink.written c.finish-in-Err-rewrite_blocks.new.sink) c.in-Err-rewrite_blocks.failure c.finish-in-Err-rewrite_blocks.result
    (subst (λ (b : List ℕ). Grew (g.K.Sink.written c.args.sink.now) (g.K.Sink.written c.write_all.new.sink) b) c.head_of.ensures c.in-Ok.ensures.ok)
    (subst (λ (t : List ℕ). BlocksWritten c.args.job t (g.K.Sink.written c.write_all.new.sink) (g.K.Sink.written c.rewrite_blocks.new.sink) (Err c.in-Err-rewrite_blocks.failure)) c.deref.ensures.value c.in-Err-rewrite_blocks.ensures.wrote) c.finish-in-Err-rewrite_blocks.ensures.finishes)

pub returns-clause-read_cause : goal.returns-clause-read_cause
returns-clause-read_cause g c =
    λ r. absurd (never_read c.args.job c.deref.result.now (g.K.Sink.written c.write_all.new.sink) (g.K.Sink.written c.rewrite_blocks.new.sink) c.in-Err-rewrite_blocks.failure c.in-Err-rewrite_blocks.ensures.wrote (c.finish-in-Err-rewrite_blocks.ensures.read r))

pub returns-clause-write_cause : goal.returns-clause-write_cause
returns-clause-write_cause g c =
    λ h. rose_over _ _ _ _ _ c.write_all.ensures.rises c.rewrite_blocks.ensures.rises c.finish-in-Err-rewrite_blocks.ensures.rises (λ e. c.in-Err-rewrite_blocks.ensures.cause (ap Err (same_failure c.in-Err-rewrite_blocks.failure WriteFault e))) c.finish-in-Err-rewrite_blocks.ensures.still (c.finish-in-Err-rewrite_blocks.ensures.cause h)
