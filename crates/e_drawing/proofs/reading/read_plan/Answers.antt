use Rattle.std.proofs.Common.{◌≡◌, Some, [], Result, refl, ap, subst, ◌∙◌, arith, length}
use Rattle.std.proofs.lemmas.Result.{err_from_is_err_and}
use Rattle.e_text.specs.declared.line.Line.{Line}
use Rattle.e_text.specs.declared.line.LineFault.{LineFault}
use Rattle.e_text.specs.Lines.{Ahead, TakesNext, view_of_line}
use Rattle.e_book.specs.Grammar.{last_line}
use Rattle.e_drawing.proofs.PlanLines.{alike_more, fails_in_line, fails_at_line, all_taken}
use Rattle.e_drawing.proofs.reading.read_plan.Goals as goal

pub loop-line-init : goal.loop-line-init
loop-line-init c = record { alike = refl; last = refl; fits = c.requires.fits }

pub returns-in-Err : goal.returns-in-Err
returns-in-Err c =
    let taken = subst (λ (r : Result Line LineFault). TakesNext c.loop-line.lines (Some r) c.next.new.self) c.in-Err.is c.in-Some.ensures in
    rw c.book_fault_of.ensures
    (fails_in_line (last_line c.args.lines.now) c.args.plan.now c.loop-line.plan c.args.lines.now.lines c.loop-line.lines.lines [] c.in-Err.fault taken.0 c.loop-line.invariant.alike)

pub returns-in_err-take_line : goal.returns-in_err-take_line
returns-in_err-take_line c =
    let taken = subst (λ (r : Result Line LineFault). TakesNext c.loop-line.lines (Some r) c.next.new.self) c.in-Ok.is c.in-Some.ensures in
    let p = err_from_is_err_and c.from_residual.result c.from_residual.ensures.1 in
    rw (p.1, p.2)
    (fails_at_line (last_line c.args.lines.now) c.args.plan.now c.loop-line.plan c.take_line.new.plan c.args.lines.now.lines c.loop-line.lines.lines c.next.new.self.lines (view_of_line c.in-Ok.line) c.in_err-take_line.field-0.0
    taken.0 c.loop-line.invariant.alike c.in_err-take_line.ensures.takes)

pub loop-line-preserved : goal.loop-line-preserved
loop-line-preserved c =
    let taken = subst (λ (r : Result Line LineFault). TakesNext c.loop-line.lines (Some r) c.next.new.self) c.in-Ok.is c.in-Some.ensures in
    record {
      alike = alike_more (last_line c.args.lines.now) c.args.plan.now c.loop-line.plan c.take_line.new.plan c.args.lines.now.lines c.loop-line.lines.lines c.next.new.self.lines (view_of_line c.in-Ok.line) taken.0 c.loop-line.invariant.alike
          c.in_ok-take_line.ensures.takes;
      last = omega (arith, ap length taken.0, taken.1, c.loop-line.invariant.last);
      fits = c.in_ok-take_line.ensures.fits;
    }

pub returns : goal.returns
returns c =
    let none = ap (λ (a : Ahead). a.lines) c.in_default.ensures.1 ∙ c.in_default.ensures.0 in
    let line : c.line.result ≡ last_line c.args.lines.now = omega (arith, c.line.ensures, ap length none, ap (λ (a : Ahead). a.line) c.in_default.ensures.1, ap length c.in_default.ensures.0, c.loop-line.invariant.last) in
    all_taken (last_line c.args.lines.now) c.line.result c.args.plan.now c.loop-line.plan c.args.lines.now.lines c.loop-line.lines.lines c.end.result c.in_default.ensures.0 line c.loop-line.invariant.alike c.end.ensures
