use Rattle.std.proofs.Common.{◌+◌, ◌-◌, ◌≤◌, vec_len}
use Rattle.e_text.specs.Lines.{IsOpen}
use Rattle.e_commands.specs.inner.Progress.{IsBook}
use Rattle.e_commands.proofs.progress.ReadPieces.{ReadState}
use Rattle.e_commands.proofs.pieces.take_source.Given as goal

abbrev pub invariant-loop-buffer : goal.invariant-loop-buffer
invariant-loop-buffer g l = record {
  read_state : ReadState (g.S.Source.left l.initial.source) (g.S.Source.left l.source) (g.K.Sink.written l.initial.sink) l.book l.untaken (g.K.Sink.written l.sink);
  unended : IsOpen l.untaken.bytes.items;
  book : IsBook l.book;
  few : l.untaken.before + vec_len l.untaken.bytes ≤ 4194305;
  line : l.untaken.line ≤ l.untaken.before + 1;
  read_rises : g.S.Source.faults l.initial.source ≤ g.S.Source.faults l.source;
  write_rises : g.K.Sink.faults l.initial.sink ≤ g.K.Sink.faults l.sink;
}

abbrev pub decreases-loop-buffer : goal.decreases-loop-buffer
decreases-loop-buffer g l = 4194305 - (l.untaken.before + vec_len l.untaken.bytes)
