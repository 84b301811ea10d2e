use Rattle.std.proofs.Common.{◌+◌, ◌<◌, length, arith}
use Rattle.e_text.proofs.LinesOfTexts.{length-lines_of}
use Rattle.e_text.proofs.reader.Lines.new.Goals as goal

pub at-requires-clause-lines_fit : goal.at-requires-clause-lines_fit
at-requires-clause-lines_fit c = omega (arith, length-lines_of (record { longest = c.args.longest; most = c.args.most }) (record { line = 1; before = 0 }) c.args.text.now)
