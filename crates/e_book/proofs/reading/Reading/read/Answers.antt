use Rattle.std.proofs.Common.{Bool, Option, Some, None, Result, Ok, refl, ap, subst, ◌∙◌, arith, length}
use Rattle.std.proofs.lemmas.Result.{err_from_is_err_and}
use Rattle.e_text.specs.declared.line.Line.{Line}
use Rattle.e_text.specs.declared.line.LineFault.{LineFault}
use Rattle.e_text.specs.Lines.{Ahead, TakesNext, view_of_line}
use Rattle.e_book.specs.declared.item.Item.{Item}
use Rattle.e_book.specs.inner.Machine.{TakesLine}
use Rattle.e_book.proofs.parsers.ReadingOn.{alike_more, good_more, ends_item, fails_at_line, fails_in_line, fits_on, on_some, all_taken, begun_after, good_after}
use Rattle.e_book.proofs.reading.Reading.read.Goals as goal

pub loop-line-init : goal.loop-line-init
loop-line-init c = record {
  alike = λ last more. refl;
  good = λ h. h;
  last = refl;
  fewer = omega arith;
  fits = c.requires.partial_item;
}

pub returns-in-Err-clause-reads : goal.returns-in-Err-clause-reads
returns-in-Err-clause-reads c =
    let taken = subst (λ (r : Result Line LineFault). TakesNext c.loop-line.lines (Some r) c.next.new.self) c.in-Err.is c.in-Some.ensures in
    rw c.book_fault_of.ensures (fails_in_line c.args.known.now c.args.self.now.partial_item c.loop-line.self.partial_item c.loop-line.self.partial_item c.args.lines.now.lines c.loop-line.lines.lines c.next.new.self.lines c.in-Err.fault taken.0 c.loop-line.invariant.alike)

pub returns-in_err-ended-clause-reads : goal.returns-in_err-ended-clause-reads
returns-in_err-ended-clause-reads c =
    let taken = subst (λ (r : Result Line LineFault). TakesNext c.loop-line.lines (Some r) c.next.new.self) c.in-Ok.is c.in-Some.ensures in
    let p = err_from_is_err_and c.from_residual-in_err-ended.result c.from_residual-in_err-ended.ensures.1 in
    rw (p.1, p.2) (fails_at_line c.args.known.now c.args.self.now.partial_item c.loop-line.self.partial_item c.take.new.self.partial_item c.take.new.self.partial_item c.args.lines.now.lines c.loop-line.lines.lines c.next.new.self.lines c.next.new.self.lines (view_of_line c.in-Ok.line) c.in_err-ended.field-0.0
    taken.0 c.loop-line.invariant.alike c.in_err-ended.ensures.takes)

pub returns-then-ended-clause-reads : goal.returns-then-ended-clause-reads
returns-then-ended-clause-reads c =
    let taken = subst (λ (r : Result Line LineFault). TakesNext c.loop-line.lines (Some r) c.next.new.self) c.in-Ok.is c.in-Some.ensures in
    ends_item c.args.known.now c.args.self.now.partial_item c.loop-line.self.partial_item c.take.new.self.partial_item c.take_ended.new.self.partial_item c.args.lines.now.lines c.loop-line.lines.lines c.next.new.self.lines (view_of_line c.in-Ok.line) c.take_ended.result taken.0
    c.loop-line.invariant.alike c.loop-line.invariant.good
    (subst (λ (b : Bool). TakesLine c.args.known.now c.loop-line.self.partial_item (view_of_line c.in-Ok.line) (Ok b) c.take.new.self.partial_item) c.if-ended.true c.in_ok-ended.ensures.takes)
    c.take_ended.ensures

pub loop-line-preserved : goal.loop-line-preserved
loop-line-preserved c =
    let taken = subst (λ (r : Result Line LineFault). TakesNext c.loop-line.lines (Some r) c.next.new.self) c.in-Ok.is c.in-Some.ensures in
    record {
      alike = alike_more c.args.known.now c.args.self.now.partial_item c.loop-line.self.partial_item c.take.new.self.partial_item c.args.lines.now.lines c.loop-line.lines.lines c.next.new.self.lines (view_of_line c.in-Ok.line) taken.0 c.loop-line.invariant.alike
          (subst (λ (b : Bool). TakesLine c.args.known.now c.loop-line.self.partial_item (view_of_line c.in-Ok.line) (Ok b) c.take.new.self.partial_item) c.if-ended.false c.in_ok-ended.ensures.takes);
      good = good_more c.args.lines.now.lines c.loop-line.lines.lines c.next.new.self.lines (view_of_line c.in-Ok.line) taken.0 c.loop-line.invariant.good;
      last = omega (arith, ap length taken.0, taken.1, c.loop-line.invariant.last);
      fewer = omega (arith, ap length taken.0, c.loop-line.invariant.fewer);
      fits = c.in_ok-ended.ensures.fits;
    }

pub returns-clause-reads : goal.returns-clause-reads
returns-clause-reads c =
    all_taken c.args.known.now c.args.self.now.partial_item c.loop-line.self.partial_item c.args.lines.now.lines c.loop-line.lines.lines c.next.new.self.lines c.in_default.ensures.0 (ap (λ (a : Ahead). a.lines) c.in_default.ensures.1 ∙ c.in_default.ensures.0)
    c.loop-line.invariant.alike c.loop-line.invariant.good

pub returns-then-ended-clause-shorter : goal.returns-then-ended-clause-shorter
returns-then-ended-clause-shorter c =
    let taken = subst (λ (r : Result Line LineFault). TakesNext c.loop-line.lines (Some r) c.next.new.self) c.in-Ok.is c.in-Some.ensures in
    on_some c.take_ended.result (omega (arith, ap length taken.0, c.loop-line.invariant.fewer))

pub returns-then-ended-clause-fits : goal.returns-then-ended-clause-fits
returns-then-ended-clause-fits c = fits_on c.args.known.now c.take.new.self.partial_item c.take_ended.new.self.partial_item c.take_ended.result c.take_ended.ensures c.in_ok-ended.ensures.fits

pub returns-then-ended-clause-begun : goal.returns-then-ended-clause-begun
returns-then-ended-clause-begun c =
    begun_after c.args.known.now c.args.self.now.partial_item c.take_ended.new.self.partial_item c.args.lines.now.lines c.next.new.self.lines (Ok c.take_ended.result) c.requires.begun (returns-then-ended-clause-reads c)

pub returns-then-ended-clause-good : goal.returns-then-ended-clause-good
returns-then-ended-clause-good c =
    good_after c.args.known.now c.args.self.now.partial_item c.take_ended.new.self.partial_item c.args.lines.now.lines c.next.new.self.lines (Ok c.take_ended.result) c.requires.notions c.requires.begun (returns-then-ended-clause-reads c)

pub returns-clause-begun : goal.returns-clause-begun
returns-clause-begun c =
    begun_after c.args.known.now c.args.self.now.partial_item c.loop-line.self.partial_item c.args.lines.now.lines c.next.new.self.lines (Ok None) c.requires.begun (returns-clause-reads c)
