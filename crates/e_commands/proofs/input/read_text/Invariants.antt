use Rattle.std.proofs.Common.{◌≤◌, ◌+◌, ◌-◌, vec_len}
use Rattle.e_commands.proofs.progress.TakenBytes.{TakenSoFar}
use Rattle.e_commands.proofs.input.read_text.Given as goal

abbrev pub invariant-loop-buffer : goal.invariant-loop-buffer
invariant-loop-buffer g l = record {
  so_far : TakenSoFar (g.S.Source.left l.initial.source) (g.S.Source.left l.source) l.text.items;
  few : vec_len l.text ≤ (l.most + 1);
  rises : g.S.Source.faults l.initial.source ≤ g.S.Source.faults l.source;
}

abbrev pub decreases-loop-buffer : goal.decreases-loop-buffer
decreases-loop-buffer g l = (l.most + 1) - vec_len l.text
