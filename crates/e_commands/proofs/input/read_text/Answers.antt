use Rattle.std.proofs.Common.{◌+◌, arith}
use Rattle.e_commands.proofs.progress.TakenBytes.{taken_all, taken_enough}
use Rattle.e_commands.proofs.input.read_text.Goals as goal

pub returns-in-Ok-eq0-clause-text : goal.returns-in-Ok-eq0-clause-text
returns-in-Ok-eq0-clause-text g c =
    taken_all _ (c.args.most + 1) (g.S.Source.left c.args.source.now) (g.S.Source.left c.loop-buffer.source) (g.S.Source.left c.read.new.self) c.loop-buffer.text.items c.read.new.to c.read.result (cc) (omega arith) c.loop-buffer.invariant.so_far c.read.ensures.bytes

pub returns-clause-text : goal.returns-clause-text
returns-clause-text g c =
    taken_enough (c.args.most + 1) (g.S.Source.left c.args.source.now) (g.S.Source.left c.loop-buffer.source) c.loop-buffer.text.items (omega arith) c.loop-buffer.invariant.so_far
