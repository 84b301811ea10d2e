use Rattle.std.proofs.Common.{ap, arith, refl}
use Rattle.e_text.specs.Lines.{view_of_line}
use Rattle.e_book.specs.TheoremViews.{entry_of}
use Rattle.e_book.specs.Grammar.{last_line}
use Rattle.e_read.specs.declared.reading.BlockParser.{BlockParser}
use Rattle.e_read.specs.inner.Machine.{piece_from}
use Rattle.e_read.proofs.Pieces.{read_ended}
use Rattle.e_read.proofs.reader.read_piece.Goals as goal

pub loop-line-init : goal.loop-line-init
loop-line-init c = record {
  read = ap (λ (r : BlockParser). piece_from c.args.known.now (last_line c.args.lines.now) r c.args.lines.now.lines) c.new-reading.ensures.value;
  last = refl;
  fewer = omega arith;
  fits = c.new-reading.ensures.fits;
  few = rw c.new-reading.ensures.value tt;
}

pub returns-in-Ok-Complete-clause-read : goal.returns-in-Ok-Complete-clause-read
returns-in-Ok-Complete-clause-read c =
    read_ended c.args.known.now (last_line c.args.lines.now) c.loop-line.reading c.progress_with_line.new.reading (view_of_line c.in-Ok.line) c.loop-line.lines.lines c.next_line.new.lines.lines _ (entry_of c.in_ok-theorem-in-Ok-Complete.theorem) _ refl (rw c.in-Ok-Complete.field-0-is at c.in-Ok-Complete.ensures.turn)
    c.in_ok-theorem-in-Ok-Complete.ensures c.in-Ok.ensures.line c.loop-line.invariant.read
