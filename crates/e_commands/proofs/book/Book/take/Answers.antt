use Rattle.std.proofs.Common.{◌++◌, ℕ, List, Option, Ok, refl, ap, subst, ◌∙◌, arith, length}
use Rattle.std.proofs.lemmas.Result.{err_from_is_err_and}
use Rattle.e_commands.specs.declared.blocks.BookResult.{BookResult}
use Rattle.e_commands.specs.inner.Progress.{Reaches, Handles}
use Rattle.e_commands.proofs.progress.TakenBooks.{book_with, next_is, next_reaches, all_reached, faulty_here, fault_none, fault_unwritten}
use Rattle.e_commands.proofs.book.Book.take.Goals as goal
use Rattle.e_book.specs.Grammar.{Rest}

pub loop-item-init : goal.loop-item-init
loop-item-init g c = record { book = c.requires.book; reaches = λ all before h. h; good = λ h. h; last = refl; rises = omega arith }

pub handle_item-requires-clause-book : goal.handle_item-requires-clause-book
handle_item-requires-clause-book g c = book_with c.loop-item.self c.read.new.self c.loop-item.invariant.book c.in-Ok-Some.ensures.fits c.in-Ok-Some.ensures.begun

pub handle_item-requires-clause-begins : goal.handle_item-requires-clause-begins
handle_item-requires-clause-begins g c = (rw c.in-Ok-Some.field-0-is at c.in-Ok-Some.ensures.reads).0

pub handle_item-requires-clause-good : goal.handle_item-requires-clause-good
handle_item-requires-clause-good g c = rw c.in-Ok-Some.field-0-is at c.in-Ok-Some.ensures.good

pub returns-in-Ok-None-clause-takes : goal.returns-in-Ok-None-clause-takes
returns-in-Ok-None-clause-takes g c =
    λ all before h.
    all_reached all before c.loop-item.self c.read.new.self (g.K.Sink.written c.loop-item.sink) c.loop-item.lines.lines c.read.new.lines.lines (c.loop-item.invariant.reaches all before h) (rw c.in-Ok-None.field-0-is at c.in-Ok-None.ensures.reads)

pub returns-in-Ok-None-clause-taken : goal.returns-in-Ok-None-clause-taken
returns-in-Ok-None-clause-taken g c =
    let reads = rw c.in-Ok-None.field-0-is at c.in-Ok-None.ensures.reads in
    record { none = reads.0; good = c.loop-item.invariant.good reads.1; line = omega (arith, ap length reads.0, c.in-Ok-None.ensures.last, c.loop-item.invariant.last) }

pub returns-in-Ok-None-clause-book : goal.returns-in-Ok-None-clause-book
returns-in-Ok-None-clause-book g c = book_with c.loop-item.self c.read.new.self c.loop-item.invariant.book c.in-Ok-None.ensures.fits c.in-Ok-None.ensures.begun

pub returns-in-Err-clause-takes : goal.returns-in-Err-clause-takes
returns-in-Err-clause-takes g c =
    λ all before h.
    rw c.result_of_fault.ensures (faulty_here all before c.loop-item.self _ (g.K.Sink.written c.loop-item.sink) c.loop-item.lines.lines c.read.new.lines.lines c.read.new.self.partial_item c.in-Err.fault c.loop-item.invariant.book (c.loop-item.invariant.reaches all before h) c.in-Err.ensures.reads)

pub returns-in-Err-clause-taken : goal.returns-in-Err-clause-taken
returns-in-Err-clause-taken g c = fault_none c.in-Err.fault c.result_of_fault.result _ c.result_of_fault.ensures

pub returns-in-Err-clause-book : goal.returns-in-Err-clause-book
returns-in-Err-clause-book g c = fault_none c.in-Err.fault c.result_of_fault.result _ c.result_of_fault.ensures

pub returns-in-Err-clause-cause : goal.returns-in-Err-clause-cause
returns-in-Err-clause-cause g c = λ h. absurd (fault_unwritten c.in-Err.fault c.result_of_fault.result c.result_of_fault.ensures h)

pub returns-in_err-handle_item-clause-takes : goal.returns-in_err-handle_item-clause-takes
returns-in_err-handle_item-clause-takes g c =
    let reads = rw c.in-Ok-Some.field-0-is at c.in-Ok-Some.ensures.reads in
    let p = err_from_is_err_and c.from_residual.result c.from_residual.ensures.1 in
    λ all before h.
    let r = c.loop-item.invariant.reaches all before h in
    rw (p.1, p.2) (λ (more : Rest). c.in_err-handle_item.ensures.handles (all more) (r.tail ++ (c.loop-item.lines.lines ++ more)) (c.read.new.lines.lines ++ more) before (r.history more)
    (next_is all before c.loop-item.self (g.K.Sink.written c.loop-item.sink) c.loop-item.lines.lines c.read.new.lines.lines c.read.new.self.partial_item c.in-Ok-Some.item r c.loop-item.invariant.book reads more))

pub returns-in-Some-clause-takes : goal.returns-in-Some-clause-takes
returns-in-Some-clause-takes g c =
    let reads = rw c.in-Ok-Some.field-0-is at c.in-Ok-Some.ensures.reads in
    λ all before h.
    let r = c.loop-item.invariant.reaches all before h in
    λ more. subst (λ (e : Option BookResult). Handles (all more) before (c.read.new.lines.lines ++ more) (Ok e) c.handle_item.new.self (g.K.Sink.written c.handle_item.new.sink)) c.in-Some.is
    (c.in_ok-handle_item.ensures.handles (all more) (r.tail ++ (c.loop-item.lines.lines ++ more)) (c.read.new.lines.lines ++ more) before (r.history more)
    (next_is all before c.loop-item.self (g.K.Sink.written c.loop-item.sink) c.loop-item.lines.lines c.read.new.lines.lines c.read.new.self.partial_item c.in-Ok-Some.item r c.loop-item.invariant.book reads more))

pub loop-item-preserved : goal.loop-item-preserved
loop-item-preserved g c =
    let reads = rw c.in-Ok-Some.field-0-is at c.in-Ok-Some.ensures.reads in
    record {
      book = rw c.in-None.is at c.in_ok-handle_item.ensures.book;
      reaches = λ (all : Rest → Rest) (before : Option (List ℕ)) (h : Reaches all (λ more. c.args.lines.now.lines ++ more) before c.args.self.now (g.K.Sink.written c.args.sink.now)).
          let r = c.loop-item.invariant.reaches all before h in
          next_reaches all before c.handle_item.new.self (g.K.Sink.written c.handle_item.new.sink) c.read.new.lines.lines
          (λ more. subst (λ (e : Option BookResult). Handles (all more) before (c.read.new.lines.lines ++ more) (Ok e) c.handle_item.new.self (g.K.Sink.written c.handle_item.new.sink)) c.in-None.is
          (c.in_ok-handle_item.ensures.handles (all more) (r.tail ++ (c.loop-item.lines.lines ++ more)) (c.read.new.lines.lines ++ more) before (r.history more)
          (next_is all before c.loop-item.self (g.K.Sink.written c.loop-item.sink) c.loop-item.lines.lines c.read.new.lines.lines c.read.new.self.partial_item c.in-Ok-Some.item r c.loop-item.invariant.book reads more)))
          (rw c.in-None.is at c.in_ok-handle_item.ensures.begins);
      good = λ h. c.loop-item.invariant.good (reads.1 h);
      last = c.in-Ok-Some.ensures.last ∙ c.loop-item.invariant.last;
      rises = omega (arith, c.loop-item.invariant.rises, c.handle_item.ensures.rises);
    }
