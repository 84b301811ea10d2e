use Rattle.std.proofs.Common.{inl, inr, ap, ◌∙◌, refl, arith}
use Rattle.e_book.specs.Grammar.{last_line}
use Rattle.e_book.specs.TheoremViews.{entry_of}
use Rattle.e_judgement.specs.Judged.{JudgedAfter}
use Rattle.e_judgement.proofs.Verifiable.{verifiable}
use Rattle.e_judgement.proofs.next.next_item.Goals as goal

pub read-requires-clause-few : goal.read-requires-clause-few
read-requires-clause-few c = omega (arith, c.requires.few)

pub check-requires : goal.check-requires
check-requires c =
    verifiable c.args.version c.args.known.now (last_line c.args.lines.now) c.args.lines.now.lines c.read.new.lines.lines (entry_of c.in-Ok-Theorem.theorem)
    c.requires.known (rw c.in-Ok-Theorem.field-0-is at c.in-Ok-Theorem.ensures.states) (rw c.in-Ok-Theorem.field-0-is at c.in-Ok-Theorem.ensures.spelled) (rw c.in-Ok-Theorem.field-0-is at c.in-Ok-Theorem.ensures.read)

pub returns-in-Ok-Last-clause-next : goal.returns-in-Ok-Last-clause-next
returns-in-Ok-Last-clause-next c =
    let r = rw c.in-Ok-Last.field-0-is at c.in-Ok-Last.ensures.read in
    inl (c.read.new.lines.lines, r.1, c.after_last_line.ensures ∙ ap (λ k. JudgedAfter k c.read.new.lines.lines) r.0)

pub returns-in-Err-Garbled-clause-next : goal.returns-in-Err-Garbled-clause-next
returns-in-Err-Garbled-clause-next c = rw c.in-Err-Garbled.field-0-is (inr (inl (c.in-Err-Garbled.line, rw c.in-Err-Garbled.field-0-is at c.in-Err-Garbled.ensures.read, refl)))

pub returns-in-Ok-clause-next : goal.returns-in-Ok-clause-next
returns-in-Ok-clause-next c = record {
  read = rw c.in-Ok-Theorem.field-0-is at c.in-Ok-Theorem.ensures.read;
  certified = c.in-Ok.ensures.certified;
  verifiable = verifiable c.args.version c.args.known.now (last_line c.args.lines.now) c.args.lines.now.lines c.read.new.lines.lines (entry_of c.in-Ok-Theorem.theorem)
      c.requires.known (rw c.in-Ok-Theorem.field-0-is at c.in-Ok-Theorem.ensures.states) (rw c.in-Ok-Theorem.field-0-is at c.in-Ok-Theorem.ensures.spelled) (rw c.in-Ok-Theorem.field-0-is at c.in-Ok-Theorem.ensures.read);
  version = rw c.in-Ok-Theorem.field-0-is at c.in-Ok-Theorem.ensures.version;
  spelled = rw c.in-Ok-Theorem.field-0-is at c.in-Ok-Theorem.ensures.spelled;
  states = rw c.in-Ok-Theorem.field-0-is at c.in-Ok-Theorem.ensures.states;
}

pub returns-in-Ok-clause-on : goal.returns-in-Ok-clause-on
returns-in-Ok-clause-on c = (c.in-Ok-Theorem.ensures.shorter, c.in-Ok-Theorem.ensures.last)

pub returns-in-Err-Bad-clause-next : goal.returns-in-Err-Bad-clause-next
returns-in-Err-Bad-clause-next c =
    inr (inr (
      entry_of c.in-Ok-Theorem.theorem,
      c.read.new.lines.lines,
      c.in-Err-Bad.step,
      rw c.in-Ok-Theorem.field-0-is at c.in-Ok-Theorem.ensures.read,
      rw c.in-Err-Bad.field-0-is at c.in-Err-Bad.ensures.bad,
      refl,
    ))
