use Rattle.std.proofs.Common.{◌≡◌, ◌≤◌, ◌++◌, ℕ, List, Option, length}
use Rattle.e_text.specs.Lines.{HaveNoFault}
use Rattle.e_book.specs.Grammar.{last_line, Rest}
use Rattle.e_commands.specs.inner.Progress.{IsBook, Reaches}
use Rattle.e_commands.proofs.book.Book.take.Given as goal

abbrev pub invariant-loop-item : goal.invariant-loop-item
invariant-loop-item g l = record {
  book : IsBook l.self;
  reaches : (all : Rest → Rest) (before : Option (List ℕ)) → Reaches all (λ more. l.initial.lines.lines ++ more) before l.initial.self (g.K.Sink.written l.initial.sink) → Reaches all (λ more. l.lines.lines ++ more) before l.self (g.K.Sink.written l.sink);
  good : HaveNoFault l.lines.lines → HaveNoFault l.initial.lines.lines;
  last : last_line l.lines ≡ last_line l.initial.lines;
  rises : g.K.Sink.faults l.initial.sink ≤ g.K.Sink.faults l.sink;
}

abbrev pub decreases-loop-item : goal.decreases-loop-item
decreases-loop-item g l = length l.lines.lines
