use Rattle.std.proofs.Common.{[], ◌∷◌, refl, ap, ◌∙◌, arith, length, length-append}
use Rattle.std.proofs.lemmas.Result.{err_from_is_err_and}
use Rattle.e_book.specs.Grammar.{last_line}
use Rattle.e_names.specs.TitledStatements.{titled_statement}
use Rattle.e_book.specs.TheoremViews.{entry_of}
use Rattle.e_judgement.proofs.Passing.{reads_on, closes_at, small_more}
use Rattle.e_commands.proofs.written_texts.RewrittenTexts.{is_verified, begins, goes_on, breaks_off, breaks_at, ends_so}
use Rattle.e_commands.proofs.rewriter.rewrite_theorems.Goals as goal

pub loop-theorem-init : goal.loop-theorem-init
loop-theorem-init g c = record {
  progress = rw c.requires.none (begins c.args.job c.args.version (last_line c.args.lines.now) c.args.lines.now.lines (g.K.Sink.written c.args.sink.now));
  small = rw c.requires.none refl;
  few = rw c.requires.none (omega arith);
  last = refl;
  rises = omega arith;
}

pub pass-requires : goal.pass-requires
pass-requires g c =
    is_verified c.args.job c.args.version c.loop-theorem.known (last_line c.loop-theorem.lines) c.loop-theorem.lines.lines (entry_of c.in-Ok-Theorem.theorem) c.next_item.new.lines.lines c.requires.version
    (rw c.in-Ok-Theorem.field-0-is at c.in-Ok-Theorem.ensures.next)

pub returns-in-Ok-End-clause-wrote : goal.returns-in-Ok-End-clause-wrote
returns-in-Ok-End-clause-wrote g c =
    let last = last_line c.args.lines.now in
    ends_so c.args.job c.args.version last c.args.lines.now.lines (g.K.Sink.written c.args.sink.now) (g.K.Sink.written c.loop-theorem.sink) c.loop-theorem.known c.loop-theorem.lines.lines c.in-Ok-End.judgement c.loop-theorem.invariant.progress
    (closes_at c.args.version c.loop-theorem.known (last_line c.loop-theorem.lines) last c.loop-theorem.lines.lines c.in-Ok-End.judgement c.loop-theorem.invariant.last (rw c.in-Ok-End.field-0-is at c.in-Ok-End.ensures.next))

pub returns-in-Err-clause-wrote : goal.returns-in-Err-clause-wrote
returns-in-Err-clause-wrote g c =
    breaks_off c.args.job c.args.version (last_line c.args.lines.now) c.args.lines.now.lines (g.K.Sink.written c.args.sink.now) (g.K.Sink.written c.loop-theorem.sink) c.loop-theorem.known c.loop-theorem.lines.lines c.loop-theorem.invariant.progress

pub returns-in_err-pass-clause-wrote : goal.returns-in_err-pass-clause-wrote
returns-in_err-pass-clause-wrote g c =
    let last = last_line c.args.lines.now in
    let t = entry_of c.in-Ok-Theorem.theorem in
    let next = rw c.in-Ok-Theorem.field-0-is at c.in-Ok-Theorem.ensures.next in
    let read = reads_on c.args.version c.loop-theorem.known (last_line c.loop-theorem.lines) last c.loop-theorem.lines.lines t c.next_item.new.lines.lines c.loop-theorem.invariant.last next.read in
    let p = err_from_is_err_and c.from_residual.result c.from_residual.ensures.1 in
    rw (p.1, p.2)
    (breaks_at c.args.job c.args.version last c.args.lines.now.lines (g.K.Sink.written c.args.sink.now) (g.K.Sink.written c.loop-theorem.sink) (g.K.Sink.written c.pass.new.sink) c.loop-theorem.known c.loop-theorem.lines.lines t c.next_item.new.lines.lines
    c.in_err-pass.field-0.0 c.loop-theorem.invariant.progress read next.certified c.in_err-pass.ensures.broke)

pub loop-theorem-preserved : goal.loop-theorem-preserved
loop-theorem-preserved g c =
    let last = last_line c.args.lines.now in
    let t = entry_of c.in-Ok-Theorem.theorem in
    let next = rw c.in-Ok-Theorem.field-0-is at c.in-Ok-Theorem.ensures.next in
    let on = rw c.in-Ok-Theorem.field-0-is at c.in-Ok-Theorem.ensures.on in
    let read = reads_on c.args.version c.loop-theorem.known (last_line c.loop-theorem.lines) last c.loop-theorem.lines.lines t c.next_item.new.lines.lines c.loop-theorem.invariant.last next.read in
    let passed = c.in_ok-pass.ensures.passed in
    let progress = goes_on c.args.job c.args.version last c.args.lines.now.lines (g.K.Sink.written c.args.sink.now) (g.K.Sink.written c.loop-theorem.sink) (g.K.Sink.written c.pass.new.sink) c.loop-theorem.known c.loop-theorem.lines.lines t c.next_item.new.lines.lines
    c.loop-theorem.invariant.progress read next.certified passed.second passed.grew in
    let small = small_more c.loop-theorem.known t c.loop-theorem.invariant.small next.states in
    record {
      progress = rw passed.known_now progress;
      small = rw passed.known_now small;
      few = omega (arith, ap length passed.known_now, length-append c.loop-theorem.known (titled_statement c.in-Ok-Theorem.theorem.title c.in-Ok-Theorem.theorem.statement ∷ []), next.spelled.few_theorems);
      last = on.1 ∙ c.loop-theorem.invariant.last;
      rises = omega (arith, c.loop-theorem.invariant.rises, c.pass.ensures.rises);
    }

pub loop-theorem-smaller : goal.loop-theorem-smaller
loop-theorem-smaller g c = (rw c.in-Ok-Theorem.field-0-is at c.in-Ok-Theorem.ensures.on).0
