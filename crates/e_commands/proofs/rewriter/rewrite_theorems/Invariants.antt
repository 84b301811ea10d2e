use Rattle.std.proofs.Common.{◌≡◌, ◌≤◌, length}
use Rattle.std.specs.Prelude.{IsTrue}
use Rattle.std.specs.List.{list_all}
use Rattle.e_deriv.specs.Fitting.{is_small_statement}
use Rattle.e_book.specs.Grammar.{last_line}
use Rattle.e_names.specs.TitledStatements.{stated_by}
use Rattle.e_line.specs.Limits.{most_theorems}
use Rattle.e_commands.specs.inner.Rewriting.{Progress}
use Rattle.e_commands.proofs.rewriter.rewrite_theorems.Given as goal

abbrev pub invariant-loop-theorem : goal.invariant-loop-theorem
invariant-loop-theorem g l = record {
  progress : Progress l.job l.version (last_line l.initial.lines) l.initial.lines.lines (g.K.Sink.written l.initial.sink) (g.K.Sink.written l.sink) l.known l.lines.lines;
  small : IsTrue (list_all is_small_statement (stated_by l.known));
  few : length l.known ≤ most_theorems;
  last : last_line l.lines ≡ last_line l.initial.lines;
  rises : g.K.Sink.faults l.initial.sink ≤ g.K.Sink.faults l.sink;
}

abbrev pub decreases-loop-theorem : goal.decreases-loop-theorem
decreases-loop-theorem g l = length l.lines.lines
