use Rattle.std.proofs.Common.{◌≡◌, ◌≤◌, length}
use Rattle.std.specs.Prelude.{IfSome}
use Rattle.e_text.specs.Lines.{HaveNoFault}
use Rattle.e_book.specs.inner.Machine.{FitsPartial}
use Rattle.e_book.specs.Grammar.{last_line}
use Rattle.e_book.proofs.parsers.ReadingOn.{Alike}
use Rattle.e_book.proofs.reading.Reading.read.Given as goal

abbrev pub invariant-loop-line : goal.invariant-loop-line
invariant-loop-line l = record {
  alike : Alike l.known l.initial.self.partial_item l.initial.lines.lines l.self.partial_item l.lines.lines;
  good : HaveNoFault l.lines.lines → HaveNoFault l.initial.lines.lines;
  last : last_line l.lines ≡ last_line l.initial.lines;
  fewer : length l.lines.lines ≤ length l.initial.lines.lines;
  fits : IfSome l.self.partial_item (FitsPartial l.known);
}

abbrev pub decreases-loop-line : goal.decreases-loop-line
decreases-loop-line l = length l.lines.lines
