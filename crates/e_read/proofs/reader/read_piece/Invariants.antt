use Rattle.std.proofs.Common.{◌≡◌, ◌≤◌, length}
use Rattle.std.specs.Prelude.{OnSome}
use Rattle.e_line.specs.Limits.{most_theorems}
use Rattle.e_book.specs.Grammar.{last_line}
use Rattle.e_read.specs.inner.Machine.{at_start, piece_from, FitsReading}
use Rattle.e_read.proofs.reader.read_piece.Given as goal

abbrev pub invariant-loop-line : goal.invariant-loop-line
invariant-loop-line l = record {
  read : piece_from l.known (last_line l.initial.lines) l.reading l.lines.lines ≡ piece_from l.known (last_line l.initial.lines) (at_start l.fn.version) l.initial.lines.lines;
  last : last_line l.lines ≡ last_line l.initial.lines;
  fewer : length l.lines.lines ≤ length l.initial.lines.lines;
  fits : FitsReading l.reading;
  few : OnSome l.reading.parser (length l.known ≤ most_theorems);
}

abbrev pub decreases-loop-line : goal.decreases-loop-line
decreases-loop-line l = length l.lines.lines
