use Rattle.std.proofs.Common.{[], ◌∷◌, ap, ◌∙◌, arith, length, length-append}
use Rattle.e_book.specs.Grammar.{last_line}
use Rattle.e_names.specs.TitledStatements.{titled_statement}
use Rattle.e_book.specs.TheoremViews.{entry_of}
use Rattle.e_judgement.proofs.Passing.{closes_so, reads_on, closes_at, goes_on, small_more}
use Rattle.e_judgement.proofs.judging.judge_theorems.Goals as goal

pub returns-in-Ok-End : goal.returns-in-Ok-End
returns-in-Ok-End c =
    let last = last_line c.args.lines.now in
    closes_so c.args.version last c.args.lines.now.lines c.loop-theorem.known c.loop-theorem.lines.lines c.in-Ok-End.judgement c.loop-theorem.invariant.history
    (closes_at c.args.version c.loop-theorem.known (last_line c.loop-theorem.lines) last c.loop-theorem.lines.lines c.in-Ok-End.judgement c.loop-theorem.invariant.last (rw c.in-Ok-End.field-0-is at c.in-Ok-End.ensures.next))

pub keep-requires : goal.keep-requires
keep-requires c = (rw c.in-Ok-Theorem.field-0-is at c.in-Ok-Theorem.ensures.next).spelled.fits.new

pub loop-theorem-preserved : goal.loop-theorem-preserved
loop-theorem-preserved c =
    let last = last_line c.args.lines.now in
    let t = entry_of c.in-Ok-Theorem.theorem in
    let next = rw c.in-Ok-Theorem.field-0-is at c.in-Ok-Theorem.ensures.next in
    let on = rw c.in-Ok-Theorem.field-0-is at c.in-Ok-Theorem.ensures.on in
    let read = reads_on c.args.version c.loop-theorem.known (last_line c.loop-theorem.lines) last c.loop-theorem.lines.lines t c.next_item.new.lines.lines c.loop-theorem.invariant.last next.read in
    let history = goes_on c.args.version last c.args.lines.now.lines c.loop-theorem.known c.loop-theorem.lines.lines t c.next_item.new.lines.lines c.loop-theorem.invariant.history read next.certified in
    let small = small_more c.loop-theorem.known t c.loop-theorem.invariant.small next.states in
    record {
      history = rw c.in_ok-keep.ensures history;
      small = rw c.in_ok-keep.ensures small;
      few = omega (arith, ap length c.in_ok-keep.ensures, length-append c.loop-theorem.known (titled_statement c.in-Ok-Theorem.theorem.title c.in-Ok-Theorem.theorem.statement ∷ []), next.spelled.few_theorems);
      last = on.1 ∙ c.loop-theorem.invariant.last;
    }

pub loop-theorem-smaller : goal.loop-theorem-smaller
loop-theorem-smaller c = (rw c.in-Ok-Theorem.field-0-is at c.in-Ok-Theorem.ensures.on).0
