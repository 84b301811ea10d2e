use Rattle.std.proofs.Common.{ap, ◌∙◌, arith, length}
use Rattle.e_text.specs.Lines.{Ahead}
use Rattle.e_text.proofs.LinesOfTexts.{length-lines_of}
use Rattle.e_commands.proofs.progress.ReadPieces.{lines_at}
use Rattle.e_commands.proofs.pieces.Untaken.lines.Goals as goal

pub at-requires-clause-lines_fit : goal.at-requires-clause-lines_fit
at-requires-clause-lines_fit c =
    omega (arith, c.requires.line, c.requires.few, c.deref.ensures.len, length-lines_of (record { longest = 1600; most = 4194304 }) (record { line = c.args.self.now.line; before = c.args.self.now.before }) c.deref.result.now)

pub at-requires-clause-bytes_fit : goal.at-requires-clause-bytes_fit
at-requires-clause-bytes_fit c = omega (arith, c.requires.few, c.deref.ensures.len)

pub returns-clause-lines : goal.returns-clause-lines
returns-clause-lines c = ap (λ (a : Ahead). a.lines) c.at.ensures ∙ ap (lines_at c.args.self.now.line c.args.self.now.before) c.deref.ensures.value

pub returns-clause-count : goal.returns-clause-count
returns-clause-count c =
    omega (arith, c.deref.ensures.len, ap (λ (a : Ahead). length a.lines) c.at.ensures, length-lines_of (record { longest = 1600; most = 4194304 }) (record { line = c.args.self.now.line; before = c.args.self.now.before }) c.deref.result.now)
